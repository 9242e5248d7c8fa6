-- One element more.
use Rattle.std.proofs.Common.{◌≡◌, ℕ, ◌+◌, ◌-◌, true, false, inl, inr, List, [], ◌∷◌, ◌++◌, ◌<◌, ◌≤◌, length, drop, get_or, add-one, Some, None, Result, Ok, Err, refl, ap, sym, ◌∙◌, append_assoc, arith}
use Rattle.std.proofs.Math.Seq.{drop-cons}
use Rattle.std.specs.Prelude.{codes}
use Rattle.sprintf.specs.declared.parser.ConversionSpecifier.{ConversionSpecifier}
use Rattle.sprintf.specs.declared.parser.FormatElement.{FormatElement}
use Rattle.sprintf.specs.declared.parser.FormatElement.TheVariants.{Format}
use Rattle.values.specs.declared.kind.Kind.{Kind}
use Rattle.row_format.specs.Columns.{is_percent}
use Rattle.translation.specs.declared.target.Target.{Target}
use Rattle.translation.specs.Table.{translated_field}
use Rattle.translation.specs.declared.error.TranslateError.{TranslateError}
use Rattle.translation.specs.Translated.{in_front, translated_from, IsRefusal}
use Rattle.translation.specs.Inner.Options.{StepsTo}

drop-next : (es : List FormatElement) (i : ℕ) (d : FormatElement) → i < length es → drop i es ≡ get_or es i d ∷ drop (i + 1) es
drop-next es i d low = rw (add-one, drop-cons es i d low) refl

pub in_front-in_front : (a b : List ℕ) (r : Result (List ℕ) ℕ) → in_front a (in_front b r) ≡ in_front (a ++ b) r
in_front-in_front a b (Ok t) = ap Ok (sym (append_assoc a b t))
in_front-in_front a b (Err e) = refl

-- the number of the next kind is the same where none was taken
same_number : (i n : ℕ) → i ≡ i + n - n
same_number i n = omega arith

-- a text in front of what is left
on_text : (target : Target) (place i : ℕ) (old new text : List ℕ) (kinds : List Kind) (rest : List FormatElement) → new ≡ old ++ text
    → in_front old (in_front text (translated_from target place i rest kinds)) ≡ in_front new (translated_from target place (i + length kinds - length kinds) rest kinds)
on_text target place i old new text kinds rest e =
    in_front-in_front old text (translated_from target place i rest kinds)
    ∙ ap (λ (t : List ℕ). in_front t (translated_from target place i rest kinds)) (sym e)
    ∙ ap (λ (j : ℕ). in_front new (translated_from target place j rest kinds)) (same_number i (length kinds))

pub percent_steps : (target : Target) (place i : ℕ) (old new : List ℕ) (f : ConversionSpecifier) (kinds : List Kind) → is_percent f.conversion_type ≡ true → new ≡ old ++ codes "%"
    → StepsTo target place i old new (Format f) kinds kinds
percent_steps target place i old new f [] p e = λ rest. rw p (on_text target (place + 1) i old new (codes "%") [] rest e)
percent_steps target place i old new f (kind ∷ kinds) p e = λ rest. rw p (on_text target (place + 1) i old new (codes "%") (kind ∷ kinds) rest e)

pub verbatim_steps : (target : Target) (place i : ℕ) (old new text : List ℕ) (kinds : List Kind) (rest : List FormatElement) → new ≡ old ++ text
    → in_front old (in_front text (translated_from target (place + 1) i rest kinds)) ≡ in_front new (translated_from target (place + 1) (i + length kinds - length kinds) rest kinds)
verbatim_steps target place i old new text kinds rest e = on_text target (place + 1) i old new text kinds rest e

pub field_steps : (target : Target) (place i : ℕ) (old new text : List ℕ) (f : ConversionSpecifier) (kind : Kind) (kinds : List Kind) → is_percent f.conversion_type ≡ false → translated_field target i f kind ≡ Some text → new ≡ old ++ text
    → StepsTo target place i old new (Format f) (kind ∷ kinds) kinds
field_steps target place i old new text f kind kinds p field e = λ rest.
    let next : i + 1 ≡ i + length (kind ∷ kinds) - length kinds = omega arith in
    rw (p, field) (
    in_front-in_front old text (translated_from target (place + 1) (i + 1) rest kinds)
    ∙ ap (λ (t : List ℕ). in_front t (translated_from target (place + 1) (i + 1) rest kinds)) (sym e)
    ∙ ap (λ (j : ℕ). in_front new (translated_from target (place + 1) j rest kinds)) next)

-- a field that isn't translated, and one without a kind
pub field_refused : (target : Target) (place i : ℕ) (f : ConversionSpecifier) (kind : Kind) (kinds : List Kind) (rest : List FormatElement) → is_percent f.conversion_type ≡ false → translated_field target i f kind ≡ None
    → translated_from target place i (Format f ∷ rest) (kind ∷ kinds) ≡ Err place
field_refused target place i f kind kinds rest p none = rw (p, none) refl

pub no_kind : (target : Target) (place i : ℕ) (f : ConversionSpecifier) (rest : List FormatElement) → is_percent f.conversion_type ≡ false → translated_from target place i (Format f ∷ rest) [] ≡ Err place
no_kind target place i f rest p = rw p refl

-- a refusal further on is that of all
pub refused_from : (text : List ℕ) (place : ℕ) (all rest : Result (List ℕ) ℕ) → all ≡ in_front text rest → rest ≡ Err place → all ≡ Err place
refused_from text place all rest e f = e ∙ ap (in_front text) f

pub refusal_from : (text : List ℕ) (all rest : Result (List ℕ) ℕ) (why : TranslateError) → all ≡ in_front text rest → IsRefusal rest why → IsRefusal all why
refusal_from text all rest why e (inl r) = inl (r.0, refused_from text r.0 all rest e r.1, r.2)
refusal_from text all rest why e (inr memory) = inr memory

-- the element at a place of the list
pub step_at : (target : Target) (place : ℕ) (es : List FormatElement) (i : ℕ) (d : FormatElement) (text new : List ℕ) (before left kinds : List Kind) (all : Result (List ℕ) ℕ) → i < length es → length left ≤ length before → length before ≤ length kinds
    → all ≡ in_front text (translated_from target place (length kinds - length before) (drop i es) before) → StepsTo target place (length kinds - length before) text new (get_or es i d) before left
    → all ≡ in_front new (translated_from target (place + 1) (length kinds - length left) (drop (i + 1) es) left)
step_at target place es i d text new before left kinds all low fewer few e steps =
    let n : ℕ = length kinds - length before in
    let number : n + length before - length left ≡ length kinds - length left = omega arith in
    e ∙ ap (λ (xs : List FormatElement). in_front text (translated_from target place n xs before)) (drop-next es i d low) ∙ steps (drop (i + 1) es)
    ∙ ap (λ (j : ℕ). in_front new (translated_from target (place + 1) j (drop (i + 1) es) left)) number

pub refusal_at : (target : Target) (place n : ℕ) (es : List FormatElement) (i : ℕ) (d : FormatElement) (text : List ℕ) (before : List Kind) (all : Result (List ℕ) ℕ) (why : TranslateError) → i < length es
    → all ≡ in_front text (translated_from target place n (drop i es) before) → ((rest : List FormatElement) → IsRefusal (translated_from target place n (get_or es i d ∷ rest) before) why) → IsRefusal all why
refusal_at target place n es i d text before all why low e refused =
    refusal_from text all (translated_from target place n (get_or es i d ∷ drop (i + 1) es) before) why (e ∙ ap (λ (xs : List FormatElement). in_front text (translated_from target place n xs before)) (drop-next es i d low)) (refused (drop (i + 1) es))
