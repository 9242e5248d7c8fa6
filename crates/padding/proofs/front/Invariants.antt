use Rattle.std.specs.Str.Iter.{chars_rest}
use Rattle.padding.proofs.FillLemmas.{Passed}
use Rattle.padding.proofs.front.Given as goal

abbrev pub invariant-characters : goal.invariant-characters
invariant-characters l = Passed l.fn.text l.i (chars_rest l.rest)
