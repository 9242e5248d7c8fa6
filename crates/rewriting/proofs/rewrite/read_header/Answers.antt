use Rattle.std.proofs.Common.{◌∙◌, List, ℕ, map, sym, ap, subst, IfSome}
use Rattle.values.specs.declared.word.Word.{Word}
use Rattle.values.specs.Datum.{word_text}
use Rattle.printer.specs.declared.dialect.Dialect.{Dialect}
use Rattle.printer.specs.Text.{Printing}
use Rattle.rewriting.specs.Inner.State.{IsPlanFor, IsWayTo}
use Rattle.rewriting.proofs.RowLemmas.{way_found}
use Rattle.rewriting.proofs.rewrite.read_header.Goals as goal

abbrev printing_by : Dialect → List ℕ → List Word → Printing
printing_by dialect template names = record { dialect = dialect; template = template; names = map word_text names }

pub returns-in-Ok-clause-sound : goal.returns-in-Ok-clause-sound
returns-in-Ok-clause-sound c =
    let dialect : Dialect = c.in-Template.dialect in
    let template : List ℕ = c.args.line.now in
    let printing : Printing = printing_by dialect template c.in-Template.fields.names.items in
    let sound : IsPlanFor c.in-Template.fields c.in-Template.source = rw c.in-Template.is at c.requires.sound in
    let found : IfSome c.in-Ok.fast (IsWayTo c.in-Template.source printing) = way_found c.in-Template.source printing c.in-Template.fields.kinds.items c.in-Ok.fast sound.0 sound.1 c.in-Ok.ensures in (
      sound.0,
      subst (λ (p : Printing). IfSome c.in-Ok.fast (IsWayTo c.in-Template.source p)) (sym (c.in_ok-printer-in-Template.ensures.ok ∙ ap (printing_by dialect template) c.deref-in-Template.ensures.value)) found,
    )
