-- The rules of the job that translates are clear.
use Rattle.std.proofs.Common.{◌≡◌, ◌+◌, ℕ, List, [], ◌∷◌, codes, if◌then◌else◌, refl, sym, ap, ◌∙◌, inl, inr, Result, Ok, Err}
use Rattle.std.specs.List.{AllZip}
use Rattle.sprintf.specs.Grammar.{IsFormat, IsSameElement}
use Rattle.sprintf.specs.declared.parser.ConversionSpecifier.{ConversionSpecifier}
use Rattle.sprintf.specs.declared.parser.FormatElement.{FormatElement}
use Rattle.sprintf.specs.declared.parser.FormatElement.TheVariants.{Verbatim, Format}
use Rattle.sprintf.proofs.Uniqueness.{one_element_list}
use Rattle.values.specs.declared.kind.Kind.{Kind}
use Rattle.row_format.specs.Columns.{is_percent}
use Rattle.row_format.specs.Planned.{escaped}
use Rattle.line_job.specs.Laws.{AreClear}
use Rattle.header_lines.proofs.ClearHeaders.{header_lines_are_clear}
use Rattle.translation.specs.declared.target.Target.{Target}
use Rattle.translation.specs.Table.{translated_field}
use Rattle.translation.specs.Translated.{in_front, field_in_front, translated_from, translated}
use Rattle.plan_jobs.specs.declared.cause.TranslateCause.{TranslateCause}
use Rattle.plan_jobs.specs.declared.cause.TranslateCause.TheVariants.{Element}
use Rattle.plan_jobs.specs.Translate.{TranslateStage, heading_next, after, format_next, translated_to, Keeps, Refuses, RefusesFormat, Ends, Misses, translate_rules}

-- elements that say the same are translated alike

with_kind : Target → ℕ → ℕ → Kind → ConversionSpecifier → Result (List ℕ) ℕ → Result (List ℕ) ℕ → Result (List ℕ) ℕ
with_kind target place i kind f percent field = if is_percent f.conversion_type then in_front (codes "%") percent else field_in_front place (translated_field target i f kind) field

with_none : ℕ → ConversionSpecifier → Result (List ℕ) ℕ → Result (List ℕ) ℕ
with_none place f percent = if is_percent f.conversion_type then in_front (codes "%") percent else Err place

same_from : (target : Target) (place i : ℕ) (a b : List FormatElement) (kinds : List Kind) → AllZip IsSameElement a b → translated_from target place i a kinds ≡ translated_from target place i b kinds
unfolding with_kind with_none
same_from target place i [] [] kinds same = refl
same_from target place i [] (y ∷ b) kinds same = absurd same
same_from target place i (x ∷ a) [] kinds same = absurd same
same_from target place i (Verbatim v ∷ a) (Verbatim w ∷ b) kinds same =
    ap (λ (t : List ℕ). in_front (escaped t) (translated_from target (place + 1) i a kinds)) same.0 ∙ ap (in_front (escaped w.now)) (same_from target (place + 1) i a b kinds same.1)
same_from target place i (Verbatim v ∷ a) (Format g ∷ b) kinds same = absurd same.0
same_from target place i (Format f ∷ a) (Verbatim w ∷ b) kinds same = absurd same.0
same_from target place i (Format f ∷ a) (Format g ∷ b) [] same =
    ap (λ (h : ConversionSpecifier). with_none place h (translated_from target (place + 1) i a [])) same.0
    ∙ ap (with_none place g) (same_from target (place + 1) i a b [] same.1)
same_from target place i (Format f ∷ a) (Format g ∷ b) (kind ∷ kinds) same =
    ap (λ (h : ConversionSpecifier). with_kind target place i kind h (translated_from target (place + 1) i a (kind ∷ kinds)) (translated_from target (place + 1) (i + 1) a kinds)) same.0
    ∙ ap (λ (r : Result (List ℕ) ℕ). with_kind target place i kind g r (translated_from target (place + 1) (i + 1) a kinds)) (same_from target (place + 1) i a b (kind ∷ kinds) same.1)
    ∙ ap (with_kind target place i kind g (translated_from target (place + 1) i b (kind ∷ kinds))) (same_from target (place + 1) (i + 1) a b kinds same.1)

one_translation : (line : List ℕ) (a b : List FormatElement) (kinds : List Kind) (target : Target) → IsFormat line a → IsFormat line b → translated a kinds target ≡ translated b kinds target
one_translation line a b kinds target p q = same_from target 1 0 a b kinds (one_element_list line a b p q)

-- a format line has one template, or one cause

one_template : (target : Target) (kinds : List Kind) (line : List ℕ) (a b : List FormatElement) (s t : List ℕ) → IsFormat line a → IsFormat line b → translated a kinds target ≡ Ok s → translated b kinds target ≡ Ok t → s ≡ t
one_template target kinds line a b s t p q e f = let same : Ok s ≡ Ok t = sym e ∙ one_translation line a b kinds target p q ∙ f in cc

one_place : (target : Target) (kinds : List Kind) (line : List ℕ) (a b : List FormatElement) (m n : ℕ) → IsFormat line a → IsFormat line b → translated a kinds target ≡ Err m → translated b kinds target ≡ Err n → m ≡ n
one_place target kinds line a b m n p q e f = let same : Err m ≡ Err n = sym e ∙ one_translation line a b kinds target p q ∙ f in cc

one_format_cause : (target : Target) (number : ℕ) (kinds : List Kind) (line : List ℕ) (why other : TranslateCause) → RefusesFormat target number kinds line why → RefusesFormat target number kinds line other → why ≡ other
one_format_cause target number kinds line why other (inl p) (inl q) = p.1 ∙ sym q.1
one_format_cause target number kinds line why other (inl p) (inr (elements, place, spelled, is, e)) = absurd (p.0 elements spelled)
one_format_cause target number kinds line why other (inr (elements, place, spelled, is, e)) (inl q) = absurd (q.0 elements spelled)
one_format_cause target number kinds line why other (inr (elements, place, spelled, is, e)) (inr (others, another, also, too, d)) =
    e ∙ ap (Element number) (one_place target kinds line elements others place another spelled also is too) ∙ sym d

format_apart : (target : Target) (number : ℕ) (kinds : List Kind) (line template : List ℕ) (elements : List FormatElement) (why : TranslateCause) → IsFormat line elements → translated elements kinds target ≡ Ok template
    → RefusesFormat target number kinds line why → ⊥
format_apart target number kinds line template elements why spelled is (inl q) = q.0 elements spelled
format_apart target number kinds line template elements why spelled is (inr (others, place, also, too, d)) =
    let both : Ok template ≡ Err place = sym is ∙ one_translation line elements others kinds target spelled also ∙ too in
    absurd (cc)

-- the rules

one_text : (stage : TranslateStage) (number : ℕ) (line a b : List ℕ) (s t : TranslateStage) → Keeps stage number line a s → Keeps stage number line b t → (a ≡ b) × (s ≡ t)
one_text (heading_next target heading) number line a b s t (e, (headed, is, n)) (f, (other, too, m)) =
    (e ∙ sym f, n ∙ ap (after target) (header_lines_are_clear.one_thing.heading heading line headed other is too) ∙ sym m)
one_text (format_next target fields) number line a b s t (e, (elements, template, spelled, is, n)) (f, (others, another, also, too, m)) =
    (e ∙ sym f, n ∙ ap translated_to (one_template target fields.kinds line elements others template another spelled also is too) ∙ sym m)
one_text (translated_to template) number line a b s t h k = absurd h

one_cause : (stage : TranslateStage) (number : ℕ) (line : List ℕ) (why other : TranslateCause) → Refuses stage number line why → Refuses stage number line other → why ≡ other
one_cause (heading_next target heading) number line why other h k = h.1 ∙ sym k.1
one_cause (format_next target fields) number line why other h k = one_format_cause target number fields.kinds line why other h k
one_cause (translated_to template) number line why other h k = absurd h

never_both : (stage : TranslateStage) (number : ℕ) (line a : List ℕ) (next : TranslateStage) (why : TranslateCause) → Keeps stage number line a next → Refuses stage number line why → ⊥
never_both (heading_next target heading) number line a next why (e, (headed, is, n)) k = k.0 headed is
never_both (format_next target fields) number line a next why (e, (elements, template, spelled, is, n)) k = format_apart target number fields.kinds line template elements why spelled is k
never_both (translated_to template) number line a next why h k = k

one_end : (stage : TranslateStage) (a b : List ℕ) → Ends stage a → Ends stage b → a ≡ b
one_end (heading_next target heading) a b h k = absurd h
one_end (format_next target fields) a b h k = absurd h
one_end (translated_to template) a b h k = h ∙ sym k

one_lack : (stage : TranslateStage) (before : ℕ) (why other : TranslateCause) → Misses stage before why → Misses stage before other → why ≡ other
one_lack (heading_next target heading) before why other h k = h ∙ sym k
one_lack (format_next target fields) before why other h k = h ∙ sym k
one_lack (translated_to template) before why other h k = absurd h

no_end_is_missed : (stage : TranslateStage) (before : ℕ) (a : List ℕ) (why : TranslateCause) → Ends stage a → Misses stage before why → ⊥
no_end_is_missed (heading_next target heading) before a why h k = h
no_end_is_missed (format_next target fields) before a why h k = h
no_end_is_missed (translated_to template) before a why h k = k

pub translate_clear : AreClear translate_rules
translate_clear = record { one_text = one_text; one_cause = one_cause; never_both = never_both; one_end = one_end; one_lack = one_lack; no_end_is_missed = no_end_is_missed }
