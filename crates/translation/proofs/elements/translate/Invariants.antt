-- What is done, and what is left, give what all gives.
use Rattle.std.proofs.Common.{◌≡◌, ◌+◌, ◌-◌, ◌≤◌, length, drop, string_bytes}
use Rattle.translation.specs.Translated.{translated, translated_from, in_front}
use Rattle.translation.proofs.elements.translate.Given as goal

abbrev pub invariant-loop-element : goal.invariant-loop-element
invariant-loop-element l =
    (l.place ≡ l.element-index + 1) × (length l.left_kinds ≤ length l.kinds)
    × (translated l.elements l.kinds l.target ≡ in_front (string_bytes l.text) (translated_from l.target l.place (length l.kinds - length l.left_kinds) (drop l.element-index l.elements) l.left_kinds))
