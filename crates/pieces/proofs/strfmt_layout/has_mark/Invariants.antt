use Rattle.std.proofs.Common.{drop}
use Rattle.pieces.specs.Inner.Strfmt.{HasNoMark}
use Rattle.pieces.proofs.strfmt_layout.has_mark.Given as goal

-- where no mark is in what is left, none is in the text
abbrev pub invariant-bytes : goal.invariant-bytes
invariant-bytes l = HasNoMark (drop l.byte-index l.text) → HasNoMark l.text
