-- A header line says one thing, or is refused for one cause, and never both.
use Rattle.std.proofs.Common.{◌≡◌, ◌==◌, ◌+◌, ℕ, List, [], ◌∷◌, codes, get_or, if◌then◌else◌, refl, sym, ap, ◌∙◌, subst, inl, inr}
use Rattle.std.specs.List.{AllZip}
use Rattle.sprintf.specs.Grammar.{IsFormat, IsSameElement}
use Rattle.sprintf.specs.declared.parser.FormatElement.{FormatElement}
use Rattle.sprintf.specs.declared.parser.FormatElement.TheVariants.{Verbatim, Format}
use Rattle.sprintf.proofs.Uniqueness.{one_element_list}
use Rattle.values.specs.declared.kind.Kind.{Kind}
use Rattle.row_format.specs.Columns.{Column, Columns, columns_of, with_text, is_percent}
use Rattle.row_format.specs.Inner.Elements.{with_field}
use Rattle.row_format.specs.Plannable.{IsUnpaired, IsLossy, RunsOn, Never, FirstAt, IsPlannable}
use Rattle.separation.specs.declared.Refused.{Refused}
use Rattle.separation.specs.declared.Refused.TheVariants.{Kind as OfKind, Lossy, RunsOn as OfRunsOn}
use Rattle.separation.specs.Refusal.{IsRefused}
use Rattle.printer.specs.declared.dialect.Dialect.{Dialect}
use Rattle.printer.specs.declared.dialect.Dialect.TheVariants.{Printf, Strfmt, Formatx}
use Rattle.printer.specs.Dialect.{dialect_word}
use Rattle.header_lines.specs.declared.cause.LineCause.{LineCause}
use Rattle.header_lines.specs.declared.cause.LineCause.TheVariants.{Refused as OfFormat, Template}
use Rattle.header_lines.specs.Headers.{IsFormatLine, RefusesFormatLine, IsDialectLine, IsTemplateLine, RefusesTemplateLine}
use Rattle.header_lines.specs.Laws.{HeaderLinesAreClear}
use Rattle.header_lines.proofs.ClearHeadings.{one_headed}
use Rattle.header_lines.proofs.KindWords.{one_kinds}

-- dialects, by the first letter

dialect_in : List (List ℕ) → Dialect
dialect_in [] = Printf
dialect_in (word ∷ more) = if get_or word 0 0 == 112 then Printf else (if get_or word 0 0 == 115 then Strfmt else Formatx)

dialect_is : (dialect : Dialect) → dialect_in (dialect_word dialect ∷ []) ≡ dialect
unfolding dialect_in
dialect_is Printf = refl
dialect_is Strfmt = refl
dialect_is Formatx = refl

one_dialect : (line : List ℕ) (a b : Dialect) → IsDialectLine line a → IsDialectLine line b → a ≡ b
one_dialect line a b p q = sym (dialect_is a) ∙ ap dialect_in (sym p ∙ q) ∙ dialect_is b

-- columns

same_columns : (a b : List FormatElement) → AllZip IsSameElement a b → columns_of a ≡ columns_of b
same_columns [] [] same = refl
same_columns [] (y ∷ b) same = absurd same
same_columns (x ∷ a) [] same = absurd same
same_columns (Verbatim v ∷ a) (Verbatim w ∷ b) same = ap (λ (t : List ℕ). with_text t (columns_of a)) same.0 ∙ ap (with_text w.now) (same_columns a b same.1)
same_columns (Verbatim v ∷ a) (Format g ∷ b) same = absurd same.0
same_columns (Format f ∷ a) (Verbatim w ∷ b) same = absurd same.0
same_columns (Format f ∷ a) (Format g ∷ b) same =
    ap (λ h. if is_percent h.conversion_type then with_text (codes "%") (columns_of a) else with_field h (columns_of a)) same.0
    ∙ ap (λ (c : Columns). if is_percent g.conversion_type then with_text (codes "%") c else with_field g c) (same_columns a b same.1)

one_columns : (line : List ℕ) (a b : List FormatElement) → IsFormat line a → IsFormat line b → columns_of a ≡ columns_of b
one_columns line a b p q = same_columns a b (one_element_list line a b p q)

-- refusals of formats

first_once : (P : List Column → List Kind → Type 0) (columns : List Column) (kinds : List Kind) (m n : ℕ) → FirstAt P columns kinds m → FirstAt P columns kinds n → m ≡ n
first_once P [] kinds m n p q = p.1 ∙ sym q.1
first_once P (c ∷ cs) [] m n p q = p.1 ∙ sym q.1
first_once P (c ∷ cs) (kind ∷ kinds) m n (inl p) (inl q) = p.1 ∙ sym q.1
first_once P (c ∷ cs) (kind ∷ kinds) m n (inl p) (inr q) = absurd (q.0 p.0)
first_once P (c ∷ cs) (kind ∷ kinds) m n (inr p) (inl q) = absurd (p.0 q.0)
first_once P (c ∷ cs) (kind ∷ kinds) m n (inr (x, (a, f, e))) (inr (y, (b, g, d))) = e ∙ ap (λ k. k + 1) (first_once P cs kinds a b f g) ∙ sym d

never_first : (P : List Column → List Kind → Type 0) (columns : List Column) (kinds : List Kind) (n : ℕ) → Never P columns kinds → FirstAt P columns kinds n → ⊥
never_first P [] kinds n none p = none p.0
never_first P (c ∷ cs) [] n none p = none p.0
never_first P (c ∷ cs) (kind ∷ kinds) n none (inl p) = none.0 p.0
never_first P (c ∷ cs) (kind ∷ kinds) n none (inr (x, (a, f, e))) = never_first P cs kinds a none.1 f

one_refusal : (columns : List Column) (kinds : List Kind) (a b : Refused) → IsRefused columns kinds a → IsRefused columns kinds b → a ≡ b
one_refusal columns kinds (OfKind m) (OfKind n) p q = ap OfKind (first_once IsUnpaired columns kinds m n p q)
one_refusal columns kinds (OfKind m) (Lossy n) p (paired, q) = absurd (never_first IsUnpaired columns kinds m paired p)
one_refusal columns kinds (OfKind m) (OfRunsOn n) p (paired, whole, q) = absurd (never_first IsUnpaired columns kinds m paired p)
one_refusal columns kinds (Lossy m) (OfKind n) (paired, p) q = absurd (never_first IsUnpaired columns kinds n paired q)
one_refusal columns kinds (Lossy m) (Lossy n) (paired, p) (other, q) = ap Lossy (first_once IsLossy columns kinds m n p q)
one_refusal columns kinds (Lossy m) (OfRunsOn n) (paired, p) (other, whole, q) = absurd (never_first IsLossy columns kinds m whole p)
one_refusal columns kinds (OfRunsOn m) (OfKind n) (paired, whole, p) q = absurd (never_first IsUnpaired columns kinds n paired q)
one_refusal columns kinds (OfRunsOn m) (Lossy n) (paired, whole, p) (other, q) = absurd (never_first IsLossy columns kinds n whole q)
one_refusal columns kinds (OfRunsOn m) (OfRunsOn n) (paired, whole, p) (other, too, q) = ap OfRunsOn (first_once RunsOn columns kinds m n p q)

not_refused : (columns : List Column) (kinds : List Kind) (why : Refused) → IsPlannable columns kinds → IsRefused columns kinds why → ⊥
not_refused columns kinds (OfKind n) is p = never_first IsUnpaired columns kinds n is.paired p
not_refused columns kinds (Lossy n) is (paired, p) = never_first IsLossy columns kinds n is.whole p
not_refused columns kinds (OfRunsOn n) is (paired, whole, p) = never_first RunsOn columns kinds n is.apart p

one_format_cause : (number : ℕ) (kinds : List Kind) (line : List ℕ) (a b : LineCause) → RefusesFormatLine number kinds line a → RefusesFormatLine number kinds line b → a ≡ b
one_format_cause number kinds line a b (inl p) (inl q) = p.1 ∙ sym q.1
one_format_cause number kinds line a b (inl p) (inr (elements, why, spelled, is, e)) = absurd (p.0 elements spelled)
one_format_cause number kinds line a b (inr (elements, why, spelled, is, e)) (inl q) = absurd (q.0 elements spelled)
one_format_cause number kinds line a b (inr (elements, why, spelled, is, e)) (inr (others, another, also, too, d)) =
    let same : columns_of others ≡ columns_of elements = one_columns line others elements also spelled in
    let here : IsRefused (columns_of elements).columns kinds another = subst (λ (c : Columns). IsRefused c.columns kinds another) same too in
    e ∙ ap (OfFormat number) (one_refusal (columns_of elements).columns kinds why another is here) ∙ sym d

format_apart : (number : ℕ) (kinds : List Kind) (line : List ℕ) (why : LineCause) → IsFormatLine kinds line → RefusesFormatLine number kinds line why → ⊥
format_apart number kinds line why (elements, spelled, is) (inl q) = q.0 elements spelled
format_apart number kinds line why (elements, spelled, is) (inr (others, another, also, too, d)) =
    let same : columns_of others ≡ columns_of elements = one_columns line others elements also spelled in
    not_refused (columns_of elements).columns kinds another is (subst (λ (c : Columns). IsRefused c.columns kinds another) same too)

-- templates

one_template_cause : (number : ℕ) (dialect : Dialect) (line : List ℕ) (a b : LineCause) → RefusesTemplateLine number dialect line a → RefusesTemplateLine number dialect line b → a ≡ b
one_template_cause number Printf line a b (f, (none, is), e) (g, (also, too), d) = e ∙ ap (Template number) (is ∙ sym too) ∙ sym d
one_template_cause number Strfmt line a b (f, never, e) q = absurd never
one_template_cause number Formatx line a b (f, (none, is), e) (g, (also, too), d) = e ∙ ap (Template number) (is ∙ sym too) ∙ sym d

template_apart : (number : ℕ) (dialect : Dialect) (line : List ℕ) (why : LineCause) → IsTemplateLine dialect line → RefusesTemplateLine number dialect line why → ⊥
template_apart number Printf line why (elements, spelled) (f, (none, is), e) = none elements spelled
template_apart number Strfmt line why p (f, never, e) = never
template_apart number Formatx line why p (f, (none, is), e) = none p

pub header_lines_are_clear : HeaderLinesAreClear
header_lines_are_clear = record {
  one_thing = record { heading = one_headed; kinds = one_kinds; columns = one_columns; dialect = one_dialect };
  one_cause = record { heading = λ heading number line a b p q. p.1 ∙ sym q.1; kinds = λ number line a b p q. p.1 ∙ sym q.1; format = one_format_cause; dialect = λ number line a b p q. p.1 ∙ sym q.1; template = one_template_cause };
  never_both = record { heading = λ heading number line headed why p q. q.0 headed p; kinds = λ number line kinds why p q. q.0 kinds p; format = format_apart; dialect = λ number line dialect why p q. q.0 dialect p; template = template_apart };
}
