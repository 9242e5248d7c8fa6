-- The translation of a printf format to a template in braces, or the place of the first element that the table refuses.
use Rattle.std.specs.Prelude.{◌≡◌, ◌⊎◌, ℕ, ◌+◌, if◌then◌else◌, List, [], ◌∷◌, ◌++◌, codes, Option, Some, None, Result, Ok, Err}
use Rattle.sprintf.specs.declared.parser.FormatElement.{FormatElement}
use Rattle.sprintf.specs.declared.parser.FormatElement.TheVariants.{Verbatim, Format}
use Rattle.values.specs.declared.kind.Kind.{Kind}
use Rattle.row_format.specs.Columns.{is_percent}
use Rattle.row_format.specs.Planned.{escaped}
use Rattle.translation.specs.declared.error.TranslateError.{TranslateError}
use Rattle.translation.specs.declared.error.TranslateError.TheVariants.{Element, NoMemory}
use Rattle.translation.specs.declared.target.Target.{Target}
use Rattle.translation.specs.Table.{translated_field}

-- A text in front of what comes after it, unless that is refused.
abbrev pub in_front : List ℕ → Result (List ℕ) ℕ → Result (List ℕ) ℕ
in_front text (Ok more) = Ok (text ++ more)
in_front text (Err place) = Err place

-- A field in front, or its refusal at this place.
abbrev pub field_in_front : ℕ → Option (List ℕ) → Result (List ℕ) ℕ → Result (List ℕ) ℕ
field_in_front place None rest = Err place
field_in_front place (Some text) rest = in_front text rest

-- Elements from a place on, over the kinds from number i on: text has its braces doubled, `%%` is `%`, and each field takes the next kind.
abbrev pub translated_from : Target → ℕ → ℕ → List FormatElement → List Kind → Result (List ℕ) ℕ
translated_from target place i [] [] = Ok []
translated_from target place i [] (kind ∷ kinds) = Err place
translated_from target place i (Verbatim s ∷ es) kinds = in_front (escaped s.now) (translated_from target (place + 1) i es kinds)
translated_from target place i (Format f ∷ es) [] =
    if is_percent f.conversion_type then in_front (codes "%") (translated_from target (place + 1) i es [])
    else Err place
translated_from target place i (Format f ∷ es) (kind ∷ kinds) =
    if is_percent f.conversion_type then in_front (codes "%") (translated_from target (place + 1) i es (kind ∷ kinds))
    else field_in_front place (translated_field target i f kind) (translated_from target (place + 1) (i + 1) es kinds)

-- The text of the template; or the place, counted from 1, of the first element that is refused; a kind without a field is refused behind the last.
abbrev pub translated : List FormatElement → List Kind → Target → Result (List ℕ) ℕ
translated elements kinds target = translated_from target 1 0 elements kinds

-- The call refuses the elements where the table does, or there was no memory.
abbrev pub IsRefusal : Result (List ℕ) ℕ → TranslateError → Type 0
IsRefusal defined why = ((place : ℕ) × (defined ≡ Err place) × (why ≡ Element place)) ⊎ (why ≡ NoMemory)
