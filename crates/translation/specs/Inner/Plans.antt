-- Which options each row of the table has.
use Rattle.std.specs.Prelude.{ℕ, ◌-◌, ◌==◌, Bool, true, false, if◌then◌else◌, Option, Some, None}
use Rattle.translation.specs.declared.options.Letters.{Letters}
use Rattle.translation.specs.declared.options.Letters.TheVariants.{Unset as NoLetters}
use Rattle.translation.specs.declared.options.Options.{Options}
use Rattle.translation.specs.declared.options.Side.TheVariants.{Unset, Left, Right, RightOfZeros}
use Rattle.translation.specs.declared.row.Row.{Row}
use Rattle.translation.specs.declared.row.Row.TheVariants.{Unpadded, ToLeft, ByZeros, ToRight}
use Rattle.translation.specs.declared.target.Target.{Target}
use Rattle.translation.specs.declared.target.Target.TheVariants.{Strfmt, Formatx}

-- No options at all.
abbrev pub none : Options
none = record { side = Unset; plus = false; zero = false; width = None; precision = None; letters = NoLetters }

-- The options, unless there is a plus.
abbrev pub unless_plus : Bool → Options → Option Options
unless_plus true o = None
unless_plus false o = Some o

-- The options of a decimal field with or without a plus.
abbrev pub decimal_plan : Target → Row → Bool → ℕ → Option Options
decimal_plan Formatx Unpadded plus w = Some (record none { plus = plus })
decimal_plan Formatx ToLeft plus w = Some (record none { side = Left; plus = plus; width = Some w })
decimal_plan Formatx ByZeros plus w = Some (record none { plus = plus; zero = true; width = Some w })
decimal_plan Formatx ToRight plus w = Some (record none { side = Right; plus = plus; width = Some w })
decimal_plan Strfmt Unpadded plus w = Some (record none { plus = plus })
decimal_plan Strfmt ToLeft plus w = unless_plus plus (record none { side = Left; width = Some w })
decimal_plan Strfmt ByZeros plus w = None
decimal_plan Strfmt ToRight plus w = unless_plus plus (record none { side = Right; width = Some w })

-- The options of a field in base 16 or 8, whose prefix has this length.
abbrev pub based_plan : Target → Row → Letters → ℕ → ℕ → Option Options
based_plan target Unpadded letters p w = Some (record none { letters = letters })
based_plan target ToLeft letters p w = Some (record none { side = Left; width = Some (w - p); letters = letters })
based_plan Formatx ByZeros letters p w = Some (record none { side = RightOfZeros; width = Some (w - p); letters = letters })
based_plan Strfmt ByZeros letters p w = None
based_plan target ToRight letters p w = if p == 0 then Some (record none { side = Right; width = Some w; letters = letters }) else None

-- The options of a word or a character.
abbrev pub text_plan : Row → ℕ → Option ℕ → Options
text_plan Unpadded w q = record none { precision = q }
text_plan ToLeft w q = record none { side = Left; width = Some w; precision = q }
text_plan _ w q = record none { side = Right; width = Some w; precision = q }

-- The precision that cuts nothing is left out.
abbrev pub cutting : ℕ → Option ℕ
cutting q = if q == 2147483647 then None else Some q
