use Rattle.std.proofs.lemmas.Str.{IsCharBoundary-start}
use Rattle.whiteread.proofs.stream.split.SplitAsciiWhitespace.new.Goals as goal

pub invariant_of-result : goal.invariant_of-result
invariant_of-result c = record { at_boundary = λ _. IsCharBoundary-start c.args.s.now c.utf8.s }
