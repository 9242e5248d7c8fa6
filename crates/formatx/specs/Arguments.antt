-- Which value a placeholder prints, and how many implicit positions it takes.
use Rattle.std.specs.Prelude.{ℕ, false, List, slice_get, Option, Some, option_and_then}
use Rattle.numerals.specs.Numeral.{numeral}
use Rattle.formatx.specs.Values.{Meaning}
use Rattle.formatx.specs.declared.ast.Argument.{Argument}
use Rattle.formatx.specs.declared.ast.Argument.TheVariants.{Implicit, Positional, Named}
use Rattle.formatx.specs.declared.ast.Precision.{Precision}
use Rattle.formatx.specs.declared.ast.Precision.TheVariants.{Star}
use Rattle.formatx.specs.Scene.{Scene, covered}

-- the position that an argument stands for
abbrev pub position_at : Scene → ℕ → Argument → Option ℕ
position_at scene next Implicit = Some next
position_at scene next (Positional i) = Some i
position_at scene next (Named s) = scene.names (covered scene.source s)

-- the argument's value, if it is there
abbrev pub value_at : Scene → ℕ → Argument → Option Meaning
value_at scene next argument = option_and_then (λ i. slice_get scene.values i) (position_at scene next argument)

-- how a missing argument is named: by its position in decimal, or by its name
abbrev pub argument_name : List ℕ → ℕ → Argument → List ℕ
argument_name source next Implicit = numeral 10 false next
argument_name source next (Positional i) = numeral 10 false i
argument_name source next (Named s) = covered source s

-- how many implicit positions a precision takes
abbrev pub precision_takes : Option Precision → ℕ
precision_takes (Some Star) = 1
precision_takes _ = 0

-- how many implicit positions an argument takes
abbrev pub argument_takes : Argument → ℕ
argument_takes Implicit = 1
argument_takes _ = 0
