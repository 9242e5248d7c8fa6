-- The words so far are names, and the others are left.
use Rattle.std.proofs.Common.{◌≡◌, ◌++◌, map}
use Rattle.std.specs.List.{AllByRecursion}
use Rattle.whiteread.specs.Words.{words}
use Rattle.whiteread.specs.Words.Split.{words_left}
use Rattle.values.specs.Datum.{word_text}
use Rattle.header_lines.specs.Heading.{IsName}
use Rattle.header_lines.proofs.names.names_of.Given as goal

abbrev pub invariant-words : goal.invariant-words
invariant-words l =
    (goal.iterator-words).can_next l.word-iterator ×
    (goal.iterator-words).is_finite l.word-iterator ×
    (words l.fn.line ≡ map word_text l.names.items ++ words_left l.word-iterator) ×
    AllByRecursion IsName (map word_text l.names.items)
