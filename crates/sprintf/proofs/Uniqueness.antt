-- A text has one list of elements, so one value.
use Rattle.std.proofs.Common.{drop, ◌≡◌, ℕ, ◌<◌, List, [], ◌∷◌, ◌++◌, length, refl, sym, ap, ◌∙◌, subst, arith, Bor, Result, Ok, Err, length-append}
use Rattle.std.specs.List.{AllZip}
use Rattle.std.proofs.lemmas.List.{append-nil}
use Rattle.sprintf.specs.declared.PrintfError.{PrintfError}
use Rattle.sprintf.specs.declared.parser.ConversionSpecifier.{ConversionSpecifier}
use Rattle.sprintf.specs.declared.parser.FormatElement.{FormatElement}
use Rattle.sprintf.specs.declared.parser.FormatElement.TheVariants.{Verbatim, Format}
use Rattle.sprintf.specs.Grammar.{IsField, AreApart, IsSameElement}
use Rattle.sprintf.specs.Inner.Reading.{read_field}
use Rattle.sprintf.specs.Laws.{HasOneElementList, HasOneValue}
use Rattle.sprintf.specs.Meaning.{Meaning}
use Rattle.sprintf.specs.Text.{then_with, field_text, wanted, onto, printed}
use Rattle.sprintf.proofs.Complete.{read_field-is, body_of}
use Rattle.sprintf.proofs.Sound.{some_parts}
use Rattle.sprintf.proofs.Formats.{Spelled, spelled_of, IsPlain, not_plain, split_same, plain_of}

-- a field at the front of a text is one field
same_field : (p q x y : List ℕ) (f g : ConversionSpecifier) → (k : IsField p f) → (l : IsField q g) → p ++ x ≡ q ++ y → (f ≡ g) × (x ≡ y)
same_field p q x y f g k l e =
    let front : 37 ∷ (body_of k ++ x) ≡ 37 ∷ (body_of l ++ y) = ap (λ (t : List ℕ). t ++ x) (sym k.whole) ∙ e ∙ ap (λ (t : List ℕ). t ++ y) l.whole in
    let rest : body_of k ++ x ≡ body_of l ++ y = cc in
    some_parts f g x y (sym (read_field-is p x f k) ∙ ap read_field rest ∙ read_field-is q y g l)

-- a field begins with `%`
field_first : (p x : List ℕ) (f : ConversionSpecifier) → (k : IsField p f) → p ++ x ≡ 37 ∷ (body_of k ++ x)
field_first p x f k = ap (λ (t : List ℕ). t ++ x) k.whole

-- the first fields of two lists
fields_agree : (f g : ConversionSpecifier) (a b : List FormatElement) (text : List ℕ) → (s : Spelled (Format f ∷ a) text) → (t : Spelled (Format g ∷ b) text) → (f ≡ g) × (s.1 ≡ t.1)
fields_agree f g a b text s t = same_field s.0 t.0 s.1 t.1 f g s.3 t.3 (sym s.2 ∙ t.2)

-- a field's text begins with `%`
first_of_field : (f : ConversionSpecifier) (a : List FormatElement) (text : List ℕ) → Spelled (Format f ∷ a) text → (x : List ℕ) × (text ≡ 37 ∷ x)
first_of_field f a text s = (body_of s.3 ++ s.1, s.2 ∙ field_first s.0 s.1 f s.3)

run_first : (run rest x : List ℕ) → 0 < length run → IsPlain run → run ++ rest ≡ 37 ∷ x → ⊥
run_first [] rest x some plain e = absurd (omega arith)
run_first (c ∷ run) rest x some plain e = let same : c ≡ 37 = cc in plain.0 same

-- a run is no field
run_no_field : (v : Bor (List ℕ)) (g : ConversionSpecifier) (a b : List FormatElement) (text : List ℕ) → Spelled (Verbatim v ∷ a) text → Spelled (Format g ∷ b) text → ⊥
run_no_field v g a b text s t = let first = first_of_field g b text t in run_first s.0 s.1 first.0 s.3.1 (plain_of s.0 s.3.2) (sym s.2 ∙ first.1)

-- a last run has no field behind it
last_no_field : (v w : Bor (List ℕ)) (g : ConversionSpecifier) (b : List FormatElement) (text : List ℕ) → Spelled (Verbatim v ∷ []) text → Spelled (Verbatim w ∷ Format g ∷ b) text → ⊥
last_no_field v w g b text s t =
    let first = first_of_field g b t.1 t.4 in
    let whole : text ≡ s.0 = s.2 ∙ ap (λ (x : List ℕ). s.0 ++ x) s.4 ∙ append-nil s.0 in
    let other : text ≡ t.0 ++ 37 ∷ first.0 = t.2 ∙ ap (λ (x : List ℕ). t.0 ++ x) first.1 in
    not_plain t.0 first.0 (subst IsPlain (sym whole ∙ other) (plain_of s.0 s.3.2))

runs_agree : (v w : Bor (List ℕ)) (f g : ConversionSpecifier) (a b : List FormatElement) (text : List ℕ) → (s : Spelled (Verbatim v ∷ Format f ∷ a) text) → (t : Spelled (Verbatim w ∷ Format g ∷ b) text) → (v.now ≡ w.now) × (s.1 ≡ t.1)
runs_agree v w f g a b text s t =
    let x = first_of_field f a s.1 s.4 in
    let y = first_of_field g b t.1 t.4 in
    let same = split_same s.0 t.0 x.0 y.0 (plain_of s.0 s.3.2) (plain_of t.0 t.3.2) (ap (λ (r : List ℕ). s.0 ++ r) (sym x.1) ∙ sym s.2 ∙ t.2 ∙ ap (λ (r : List ℕ). t.0 ++ r) y.1) in
    (s.3.0 ∙ same.0 ∙ sym t.3.0, x.1 ∙ ap (λ (r : List ℕ). 37 ∷ r) same.1 ∙ sym y.1)

agree : (a b : List FormatElement) (text : List ℕ) → Spelled a text → Spelled b text → AreApart a → AreApart b → AllZip IsSameElement a b
agree [] [] text s t p q = tt
agree [] (Verbatim w ∷ b) text s t p q = let e : [] ≡ t.0 ++ t.1 = sym s ∙ t.2 in absurd (omega (arith, t.3.1, ap length e, length-append t.0 t.1))
agree [] (Format g ∷ b) text s t p q = let first = first_of_field g b text t in cc
agree (Verbatim v ∷ a) [] text s t p q = let e : [] ≡ s.0 ++ s.1 = sym t ∙ s.2 in absurd (omega (arith, s.3.1, ap length e, length-append s.0 s.1))
agree (Format f ∷ a) [] text s t p q = let first = first_of_field f a text s in cc
agree (Format f ∷ a) (Format g ∷ b) text s t p q =
    let same = fields_agree f g a b text s t in
    (same.0, agree a b s.1 s.4 (subst (λ x. Spelled b x) (sym same.1) t.4) p q)
agree (Format f ∷ a) (Verbatim w ∷ b) text s t p q = absurd (run_no_field w f b a text t s)
agree (Verbatim v ∷ a) (Format g ∷ b) text s t p q = absurd (run_no_field v g a b text s t)
agree (Verbatim v ∷ []) (Verbatim w ∷ []) text s t p q =
    let left : text ≡ s.0 = s.2 ∙ ap (λ (x : List ℕ). s.0 ++ x) s.4 ∙ append-nil s.0 in
    let right : text ≡ t.0 = t.2 ∙ ap (λ (x : List ℕ). t.0 ++ x) t.4 ∙ append-nil t.0 in
    (s.3.0 ∙ sym left ∙ right ∙ sym t.3.0, tt)
agree (Verbatim v ∷ []) (Verbatim w ∷ Format g ∷ b) text s t p q = absurd (last_no_field v w g b text s t)
agree (Verbatim v ∷ []) (Verbatim w ∷ Verbatim u ∷ b) text s t p q = absurd q
agree (Verbatim v ∷ Format f ∷ a) (Verbatim w ∷ []) text s t p q = absurd (last_no_field w v f a text t s)
agree (Verbatim v ∷ Format f ∷ a) (Verbatim w ∷ Verbatim u ∷ b) text s t p q = absurd q
agree (Verbatim v ∷ Format f ∷ a) (Verbatim w ∷ Format g ∷ b) text s t p q =
    let runs = runs_agree v w f g a b text s t in
    let rest = s.4 in
    let other : Spelled (Format g ∷ b) s.1 = subst (λ x. Spelled (Format g ∷ b) x) (sym runs.1) t.4 in
    let same = fields_agree f g a b s.1 rest other in
    (runs.0, (same.0, agree a b rest.1 rest.4 (subst (λ x. Spelled b x) (sym same.1) other.4) p q))
agree (Verbatim v ∷ Verbatim u ∷ a) (Verbatim w ∷ b) text s t p q = absurd p

pub one_element_list : HasOneElementList
one_element_list text a b s t = agree a b text (spelled_of a text s) (spelled_of b text t) s.apart t.apart

by_text : (field : Result (List ℕ) PrintfError) (left right : Result (List ℕ) PrintfError) → left ≡ right → then_with field (λ text. onto text left) ≡ then_with field (λ text. onto text right)
by_text (Ok text) left right h = ap (λ (p : Result (List ℕ) PrintfError). onto text p) h
by_text (Err e) left right h = refl

same_value : (a b : List FormatElement) → AllZip IsSameElement a b → (values : List Meaning) → printed a values ≡ printed b values
same_value [] [] z values = refl
same_value [] (y ∷ b) z values = absurd z
same_value (x ∷ a) [] z values = absurd z
same_value (Verbatim v ∷ a) (Verbatim w ∷ b) z values = ap (λ (t : List ℕ). onto t (printed a values)) z.0 ∙ ap (λ (p : Result (List ℕ) PrintfError). onto w.now p) (same_value a b z.1 values)
same_value (Verbatim v ∷ a) (Format g ∷ b) z values = absurd z.0
same_value (Format f ∷ a) (Verbatim w ∷ b) z values = absurd z.0
same_value (Format f ∷ a) (Format g ∷ b) z values =
    ap (λ (h : ConversionSpecifier). then_with (field_text h values) (λ text. onto text (printed a (drop (wanted h) values)))) z.0
    ∙ by_text (field_text g values) (printed a (drop (wanted g) values)) (printed b (drop (wanted g) values)) (same_value a b z.1 (drop (wanted g) values))

pub one_value : HasOneValue
one_value text a b values s t = same_value a b (one_element_list text a b s t) values
