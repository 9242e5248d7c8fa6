-- The options of a field as the code keeps them, and the text that they are.
use Rattle.std.specs.Prelude.{◌≡◌, ℕ, ◌+◌, ◌-◌, Bool, true, false, List, [], ◌∷◌, ◌++◌, length, codes, Option, Some, None}
use Rattle.numerals.specs.Numeral.{numeral}
use Rattle.sprintf.specs.declared.parser.FormatElement.{FormatElement}
use Rattle.values.specs.declared.kind.Kind.{Kind}
use Rattle.translation.specs.declared.options.Letters.{Letters}
use Rattle.translation.specs.declared.options.Letters.TheVariants.{Unset as NoLetters, LowerHex, UpperHex, Octal}
use Rattle.translation.specs.declared.options.Options.{Options}
use Rattle.translation.specs.declared.options.Side.{Side}
use Rattle.translation.specs.declared.options.Side.TheVariants.{Unset, Left, Right, RightOfZeros}
use Rattle.translation.specs.declared.field.Field.{Field}
use Rattle.translation.specs.declared.target.Target.{Target}
use Rattle.translation.specs.declared.target.Target.TheVariants.{Strfmt, Formatx}
use Rattle.translation.specs.Table.{in_braces}
use Rattle.translation.specs.Translated.{in_front, translated_from}

-- The side on which the text stands, behind its fill.
abbrev pub side_text : Side → List ℕ
side_text Unset = []
side_text Left = codes "<"
side_text Right = codes ">"
side_text RightOfZeros = codes "0>"

-- A plus, or nothing.
abbrev pub plus_text : Bool → List ℕ
plus_text true = codes "+"
plus_text false = []

-- The flag of zeros, or nothing.
abbrev pub zero_text : Bool → List ℕ
zero_text true = codes "0"
zero_text false = []

-- A width in decimal, or nothing.
abbrev pub width_text : Option ℕ → List ℕ
width_text None = []
width_text (Some w) = numeral 10 false w

-- A precision behind its point, or nothing.
abbrev pub precision_text : Option ℕ → List ℕ
precision_text None = []
precision_text (Some q) = codes "." ++ numeral 10 false q

-- The letters of the type.
abbrev pub letters_text : Target → Letters → List ℕ
letters_text target NoLetters = []
letters_text Strfmt LowerHex = codes "x"
letters_text Strfmt UpperHex = codes "X"
letters_text Strfmt Octal = codes "o"
letters_text Formatx LowerHex = codes "x?"
letters_text Formatx UpperHex = codes "X?"
letters_text Formatx Octal = codes "o"

-- The parts of the options, end to end.
abbrev pub written : Target → Options → List ℕ
written target o = side_text o.side ++ (plus_text o.plus ++ (zero_text o.zero ++ (width_text o.width ++ (precision_text o.precision ++ letters_text target o.letters))))

-- Options stand behind a colon, if there are any.
abbrev pub behind_colon : List ℕ → List ℕ
behind_colon [] = []
behind_colon (c ∷ cs) = codes ":" ++ (c ∷ cs)

-- The text of a field: its prefix, and then the number of its kind with its options in braces.
abbrev pub field_text : Target → ℕ → Field → List ℕ
field_text target i f = f.prefix.now ++ in_braces i (written target f.options)

-- What elements give from here on is the same, whether the first was translated or not.
abbrev pub StepsTo : Target → ℕ → ℕ → List ℕ → List ℕ → FormatElement → List Kind → List Kind → Type 0
StepsTo target place i old new element kinds left =
    (rest : List FormatElement) → in_front old (translated_from target place i (element ∷ rest) kinds) ≡ in_front new (translated_from target (place + 1) (i + length kinds - length left) rest left)
