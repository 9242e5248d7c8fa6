-- After the quote stand the characters so far, each escaped.
use Rattle.std.proofs.Common.{◌≡◌, ◌∷◌, ◌++◌}
use Rattle.std.specs.Prelude.{string_bytes, flat_map}
use Rattle.formatx.specs.Values.{escaped}
use Rattle.formatx.proofs.value.push_characters.Given as goal

abbrev pub invariant-characters : goal.invariant-characters
invariant-characters l =
    string_bytes l.out ≡ string_bytes l.fn.out ++ (l.quote ∷ flat_map (escaped l.quote) l.yielded)
