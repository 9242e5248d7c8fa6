-- The words so far name these kinds, and the others are left.
use Rattle.std.proofs.Common.{◌≡◌, ◌++◌, map}
use Rattle.whiteread.specs.Words.{words}
use Rattle.whiteread.specs.Words.Split.{words_left}
use Rattle.values.specs.Kind.{kind_word}
use Rattle.values.proofs.kind.parse_kinds.Given as goal

abbrev pub invariant-words : goal.invariant-words
invariant-words l =
    (goal.iterator-words).can_next l.word-iterator ×
    (goal.iterator-words).is_finite l.word-iterator ×
    (words l.fn.line ≡ map kind_word l.kinds.items ++ words_left l.word-iterator)
