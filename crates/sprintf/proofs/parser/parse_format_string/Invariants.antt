use Rattle.std.proofs.Common.{◌++◌, length, List}
use denote.Text.{Utf8}
use denote.Shadow.{shadow}
use Rattle.sprintf.specs.declared.parser.FormatElement.{FormatElement}
use Rattle.sprintf.specs.Grammar.{IsFormat}
use Rattle.sprintf.proofs.parser.parse_format_string.Given as goal

abbrev pub invariant-loop-text : goal.invariant-loop-text
invariant-loop-text l =
    shadow (Utf8 l.rest)
    × ((more : List FormatElement) → IsFormat l.rest more → IsFormat l.fmt (l.elements.items ++ more))
    × ((elements : List FormatElement) → IsFormat l.fmt elements → (more : List FormatElement) × IsFormat l.rest more)

abbrev pub decreases-loop-text : goal.decreases-loop-text
decreases-loop-text l = length l.rest
