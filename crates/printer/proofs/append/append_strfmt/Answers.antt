use Rattle.std.proofs.Common.{rules, List, ℕ, Option, string_bytes}
use Rattle.strfmt.specs.Text.{Meaning}
use Rattle.strfmt.proofs.PrintLemmas.{filled_at}
use Rattle.printer.proofs.AppendLemmas.{meanings, strfmt_text, strfmt_fault}
use Rattle.printer.proofs.append.append_strfmt.Goals as goal

pub returns-in-Ok : goal.returns-in-Ok
returns-in-Ok c =
    let means : List ℕ → Option Meaning = meanings c.args.template.now c.args.names.now c.args.values.now c.requires in
    strfmt_text c.args.template.now c.args.names.now c.args.values.now c.requires _ _
    (λ view left answer f' k. (search (rules, k.called.met), filled_at means view k.shown.now left k.left.now answer k.shows k.leaves (search (rules, k.called.met))))
    _ (string_bytes c.args.out.now) (string_bytes c.fill.new.out) c.in-Ok.ensures.ok

pub returns-in-Err : goal.returns-in-Err
returns-in-Err c =
    let means : List ℕ → Option Meaning = meanings c.args.template.now c.args.names.now c.args.values.now c.requires in
    strfmt_fault c.args.template.now c.args.names.now c.args.values.now c.requires _ _
    (λ view left answer f' k. (search (rules, k.called.met), filled_at means view k.shown.now left k.left.now answer k.shows k.leaves (search (rules, k.called.met))))
    _ (string_bytes c.args.out.now) (string_bytes c.fill.new.out) c.in-Err.error c.strfmt_told.result c.in-Err.ensures.err c.in-Err.ensures.same c.strfmt_told.ensures
