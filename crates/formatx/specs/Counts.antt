-- Widths and precisions: a number of the template, or one that a value holds.
use Rattle.std.specs.Prelude.{ℕ, false, List, ◌++◌, codes, slice_get, Option, Some, None, Result, Ok, ok_or}
use Rattle.std.specs.Option.{option_map_or}
use Rattle.numerals.specs.Numeral.{numeral}
use Rattle.formatx.specs.Fault.{Fault, unreadable, ◌>>=◌, quoting}
use Rattle.formatx.specs.Words.{usize_of}
use Rattle.formatx.specs.declared.ast.Count.{Count}
use Rattle.formatx.specs.declared.ast.Count.TheVariants.{Literal, Param}
use Rattle.formatx.specs.declared.ast.CountParam.TheVariants.{Positional as AtPosition, Named as ByName}
use Rattle.formatx.specs.declared.ast.Precision.{Precision}
use Rattle.formatx.specs.declared.ast.Precision.TheVariants.{Count as Counted, Star}
use Rattle.formatx.specs.Scene.{Scene, covered}

-- the number that the value at a position writes, or the message that none is there, or the words with what is there; this
-- fault stands at no place of the source
abbrev pub number_at : Scene → ℕ → List ℕ → List ℕ → Result ℕ Fault
number_at scene i missing words =
    ok_or (slice_get scene.values i) (unreadable (record { start = 0; end = 0 }) missing) >>= λ m.
    ok_or (usize_of m.display) (unreadable (record { start = 0; end = 0 }) (quoting words m.display ++ codes " is not a valid usize"))

-- the value at a position, as a number
abbrev pub count_at_position : Scene → ℕ → Result ℕ Fault
count_at_position scene i = number_at scene i (codes "count argument index " ++ numeral 10 false i ++ codes " out of range") (codes "count argument ")

-- the number that a count stands for
abbrev pub count_of : Scene → Count → Result ℕ Fault
count_of scene (Literal n) = Ok n
count_of scene (Param (AtPosition i)) = count_at_position scene i
count_of scene (Param (ByName s)) =
    let name = covered scene.source s in
    ok_or (scene.names name) (unreadable s (quoting (codes "missing count argument: ") name)) >>= count_at_position scene

-- the width, if there is one
abbrev pub width_of : Scene → Option Count → Result (Option ℕ) Fault
width_of scene width = option_map_or (λ c. count_of scene c >>= λ n. Ok (Some n)) width (Ok None)

-- a precision: `.*` takes the next implicit position
abbrev pub precision_of : Scene → ℕ → Option Precision → Result (Option ℕ) Fault
precision_of scene next None = Ok None
precision_of scene next (Some (Counted c)) = width_of scene (Some c)
precision_of scene next (Some Star) =
    number_at scene next (codes "not enough arguments for `.*` precision") (codes "`.*` precision argument ") >>= λ n. Ok (Some n)
