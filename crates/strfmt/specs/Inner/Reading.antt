-- What the private calls answer that tell a fault.
use Rattle.std.specs.Prelude.{◌≡◌, ◌⊎◌, ◌++◌, ◌∷◌, ◌==◌, ◌||◌, ℕ, ◌-◌, ◌^◌, List, [], codes, encode_utf8, false, if◌then◌else◌, min, option_map, Option}
use Rattle.std.specs.Char.{is_ascii_control}
use Rattle.std.specs.Str.{byte}
use Rattle.numerals.specs.Numeral.{numeral}
use Rattle.strfmt.specs.declared.types.FmtError.{FmtError}
use Rattle.strfmt.specs.declared.types.FmtError.TheVariants.{NoMemory}
use Rattle.strfmt.specs.Fault.{Fault, IsFault}
use Rattle.strfmt.specs.Grammar.Parts.{Parts}

-- The error is this fault, or there was no memory for its message.
abbrev pub IsFaultOrMemory : Fault → FmtError → Type 0
IsFaultOrMemory fault error = (error ≡ NoMemory) ⊎ IsFault error fault

-- The debug text of a character as the code writes it, case by case.
abbrev pub escaped_by_cases : ℕ → List ℕ
escaped_by_cases c =
    if c == byte "'" || c == byte "\\" then byte "\\" ∷ c ∷ []
    else (if c == 0 then codes "\\0"
    else (if c == 9 then codes "\\t"
    else (if c == 13 then codes "\\r"
    else (if c == 10 then codes "\\n"
    else (if is_ascii_control c then codes "\\u{" ++ numeral 16 false c ++ codes "}"
    else encode_utf8 c)))))

-- A number that is too large for its type stands at the type's last value.
abbrev pub capped_number : Option ℕ → Option ℕ
capped_number number = option_map (λ n. min n (2 ^ 64 - 1)) number

-- The parts with each number within its type.
abbrev pub capped : Parts → Parts
capped parts = record parts { width = capped_number parts.width; precision = capped_number parts.precision }
