use Rattle.std.proofs.Common.{rules, ◌≡◌, ◌∙◌, ap, take}
use Rattle.std.specs.Str.{chars}
use Rattle.strfmt.proofs.FieldLemmas.{chars_front}
use Rattle.strfmt.proofs.formatter.Formatter.str_unchecked.Goals as goal

pub returns-in-Some : goal.returns-in-Some
returns-in-Some c =
    let e : chars c.front.result.now ≡ take c.in-Some.precision (chars c.args.s.now) = ap chars c.front.ensures ∙ chars_front _ _ c.utf8.s in
    let h = rw e at c.write_padded.ensures in
    search (rules, h)
