-- What is read as a field is a spelling of it.
use Rattle.std.proofs.Common.{◌≡◌, ◌≢◌, ℕ, suc, ◌+◌, ◌<◌, ◌≤◌, ◌⊎◌, inl, inr, Bool, true, false, cond, leb, pos, List, [], ◌∷◌, ◌++◌, length, take, drop, Option, Some, None, unwrap_or, slice_index, refl, sym, ap, ◌∙◌, subst, arith, one-add, append_assoc, eqb}
use Rattle.std.specs.Char.{is_ascii_digit}
use Rattle.std.specs.List.{prefix_len, AllPass, Contains}
use Rattle.std.proofs.lemmas.Bool.Decides.{nat_tests}
use Rattle.std.proofs.lemmas.List.{take-append-drop}
use Rattle.std.proofs.lemmas.List.Sums.{prefix_len_passes}
use Rattle.numerals.specs.Numeral.{text_value}
use Rattle.sprintf.specs.declared.parser.ConversionSpecifier.{ConversionSpecifier}
use Rattle.sprintf.specs.declared.parser.ConversionType.{ConversionType}
use Rattle.sprintf.specs.declared.parser.NumericParam.{NumericParam}
use Rattle.sprintf.specs.declared.parser.NumericParam.TheVariants.{Literal, FromArgument}
use Rattle.sprintf.specs.Grammar.{has, is_flag, IsCount, IsWidth, IsPrecision, no_width, star_width, digits_width, no_precision, bare_precision, star_precision, digits_precision, length_modifiers, letters_of, IsField}
use Rattle.sprintf.specs.Inner.Reading.{read_field, read_param, read_precision, read_count, written, read_letter, read_as, then_read, skip_one, behind, conversion_of, conversion_among, all_conversions, precision_or_default, field_with}
use Rattle.sprintf.proofs.Digits.{all_below}
use Rattle.sprintf.proofs.Runs.{prefix_len-take}

-- what a width or a precision was read from
data IsParam : List ℕ → NumericParam → Type 0 where
  none : IsParam [] (Literal (pos 0))
  star : IsParam (42 ∷ []) FromArgument
  number : {digits : List ℕ} {n : ℕ} → IsCount digits n → IsParam digits (Literal (pos n))

abbrev ReadsParam : List ℕ → NumericParam → List ℕ → Type 0
ReadsParam text p rest = (front : List ℕ) × (text ≡ front ++ rest) × IsParam front p

abbrev read : {A : Type 0} → A → List ℕ → Option (A × List ℕ)
read a rest = Some (a, rest)

pub some_parts : {A : Type 0} (a b : A) (x y : List ℕ) → read a x ≡ read b y → (a ≡ b) × (x ≡ y)
some_parts {A} a b x y e =
    let pair : ◌≡◌ {A = A × List ℕ} (a, x) (b, y) = cc in
    (ap (λ (r : A × List ℕ). r.0) pair, ap (λ (r : A × List ℕ). r.1) pair)

same_code : (x c : ℕ) → eqb x c ≡ true → x ≡ c
same_code x c e = grind (arith, nat_tests)

number_param : (digits : List ℕ) → prefix_len is_ascii_digit digits ≡ length digits → text_value 10 digits ≤ 2147483647 → IsParam digits (Literal (pos (text_value 10 digits)))
number_param [] e h = none
number_param (d ∷ ds) e h = number (record { only_digits = (omega arith, all_below (d ∷ ds) e); value = refl; limit = h })

count_parts : (b : Bool) (n : ℕ) (rest left : List ℕ) (p : NumericParam) → leb n 2147483647 ≡ b → cond b (read (Literal (pos n)) rest) None ≡ read p left → (n ≤ 2147483647) × (Literal (pos n) ≡ p) × (rest ≡ left)
count_parts true n rest left p h e = let parts = some_parts _ _ _ _ e in (grind (arith, nat_tests), parts.0, parts.1)
count_parts false n rest left p h e = cc

param_digits : (text left : List ℕ) (p : NumericParam) (n : ℕ) → n ≡ prefix_len is_ascii_digit text → read_count (take n text) (drop n text) ≡ Some (p, left) → ReadsParam text p left
param_digits text left p n same e =
    let parts = count_parts (leb (text_value 10 (take n text)) 2147483647) (text_value 10 (take n text)) (drop n text) left p refl e in
    let run : prefix_len is_ascii_digit (take n text) ≡ length (take n text) = rw same (prefix_len-take is_ascii_digit text) in
    let whole : text ≡ take n text ++ left = sym (take-append-drop n text) ∙ ap (λ (l : List ℕ). take n text ++ l) parts.2 in
    (take n text, whole, subst (λ p. IsParam (take n text) p) parts.1 (number_param (take n text) run parts.0))

param_by : (b : Bool) (c : ℕ) (text left : List ℕ) (p : NumericParam) → eqb 42 c ≡ b → cond b (read FromArgument text) (read_count (take (prefix_len is_ascii_digit (c ∷ text)) (c ∷ text)) (drop (prefix_len is_ascii_digit (c ∷ text)) (c ∷ text))) ≡ Some (p, left) → ReadsParam (c ∷ text) p left
param_by true c text left p h e =
    let parts = some_parts _ _ _ _ e in
    let same : 42 ≡ c = same_code 42 c h in
    (42 ∷ [], cc, subst (λ p. IsParam (42 ∷ []) p) parts.0 star)
param_by false c text left p h e = param_digits (c ∷ text) left p _ refl e

param_sound : (text left : List ℕ) (p : NumericParam) → read_param text ≡ Some (p, left) → ReadsParam text p left
param_sound [] left p e = let parts = some_parts _ _ _ _ e in ([], parts.1, subst (λ p. IsParam [] p) parts.0 none)
param_sound (c ∷ text) left p e = param_by (eqb 42 c) c text left p refl e

-- a width begins with no `0`, since the flags before it are a longest run
no_zero : (digits left : List ℕ) → 0 < length digits → prefix_len is_flag (digits ++ left) ≡ 0 → slice_index digits 0 ≢ 48
no_zero [] left some e z = absurd (omega arith)
no_zero (d ∷ ds) left some e z =
    let zero_first : d ≡ 48 = z in
    let bad : 1 + prefix_len is_flag (ds ++ left) ≡ 0 = rw zero_first at e in
    absurd (omega arith)

width_sound : {front : List ℕ} {p : NumericParam} → IsParam front p → (left : List ℕ) → prefix_len is_flag (front ++ left) ≡ 0 → IsWidth front p
width_sound none left e = no_width
width_sound star left e = star_width
width_sound (number {digits} {n} k) left e = digits_width k (no_zero digits left k.only_digits.0 e)

precision_of : {front : List ℕ} {p : NumericParam} → IsParam front p → (t : ConversionType) → IsPrecision t (46 ∷ front) p
precision_of none t = bare_precision
precision_of star t = star_precision
precision_of (number k) t = digits_precision k

abbrev ReadsPrecision : List ℕ → Option NumericParam → List ℕ → Type 0
ReadsPrecision text o left = (front : List ℕ) × (text ≡ front ++ left) × ((t : ConversionType) → IsPrecision t front (precision_or_default o t))

written_sound : (r : Option (NumericParam × List ℕ)) (text left : List ℕ) (o : Option NumericParam) → read_param text ≡ r → written r ≡ Some (o, left) → ReadsPrecision (46 ∷ text) o left
written_sound None text left o h e = cc
written_sound (Some r) text left o h e =
    let parts = some_parts _ _ _ _ e in
    let it = param_sound text r.1 r.0 h in
    let whole : 46 ∷ text ≡ 46 ∷ (it.0 ++ left) = ap (λ (x : List ℕ). 46 ∷ x) (it.1 ∙ ap (λ (x : List ℕ). it.0 ++ x) parts.1) in
    (46 ∷ it.0, whole, subst (λ o. (t : ConversionType) → IsPrecision t (46 ∷ it.0) (precision_or_default o t)) parts.0 (λ t. precision_of it.2 t))

precision_by : (b : Bool) (c : ℕ) (text left : List ℕ) (o : Option NumericParam) → eqb 46 c ≡ b → cond b (written (read_param text)) (read None (c ∷ text)) ≡ Some (o, left) → ReadsPrecision (c ∷ text) o left
precision_by true c text left o h e = subst (λ c. ReadsPrecision (c ∷ text) o left) (same_code 46 c h) (written_sound (read_param text) text left o refl e)
precision_by false c text left o h e = let parts = some_parts _ _ _ _ e in ([], parts.1, subst (λ o. (t : ConversionType) → IsPrecision t [] (precision_or_default o t)) parts.0 (λ t. no_precision))

precision_sound : (text left : List ℕ) (o : Option NumericParam) → read_precision text ≡ Some (o, left) → ReadsPrecision text o left
precision_sound [] left o e = let parts = some_parts _ _ _ _ e in ([], parts.1, subst (λ o. (t : ConversionType) → IsPrecision t [] (precision_or_default o t)) parts.0 (λ t. no_precision))
precision_sound (c ∷ text) left o e = precision_by (eqb 46 c) c text left o refl e

-- ---- the length modifier

behind_by : (b : Bool) (c d : ℕ) (word text left : List ℕ) → eqb c d ≡ b → cond b (behind word text) None ≡ Some left → (behind word text ≡ Some left → text ≡ word ++ left) → d ∷ text ≡ c ∷ (word ++ left)
behind_by true c d word text left h e ih = let same : c ≡ d = same_code c d h in let rest : text ≡ word ++ left = ih e in cc
behind_by false c d word text left h e ih = cc

behind_sound : (word text left : List ℕ) → behind word text ≡ Some left → text ≡ word ++ left
behind_sound [] text left e = cc
behind_sound (c ∷ word) [] left e = cc
behind_sound (c ∷ word) (d ∷ text) left e = behind_by (eqb c d) c d word text left refl e (behind_sound word text left)

abbrev Skips : List (List ℕ) → List ℕ → List ℕ → Type 0
Skips words text left = (front : List ℕ) × (text ≡ front ++ left) × ((front ≡ []) ⊎ Contains words front)

later : (word front : List ℕ) (words : List (List ℕ)) → (front ≡ []) ⊎ Contains words front → (front ≡ []) ⊎ Contains (word ∷ words) front
later word front words (inl e) = inl e
later word front words (inr k) = inr (suc k.0, omega (arith, k.1), k.2)

skip_by : (word : List ℕ) (words : List (List ℕ)) (text : List ℕ) (o : Option (List ℕ)) → behind word text ≡ o → Skips words text (skip_one words text) → Skips (word ∷ words) text (unwrap_or o (skip_one words text))
skip_by word words text None e ih = (ih.0, ih.1, later word ih.0 words ih.2)
skip_by word words text (Some left) e ih = (word, behind_sound word text left e, inr (0, omega arith, refl))

skip_sound : (words : List (List ℕ)) (text : List ℕ) → Skips words text (skip_one words text)
skip_sound [] text = ([], refl, inl refl)
skip_sound (word ∷ words) text = skip_by word words text (behind word text) refl (skip_sound words text)

-- ---- the letter

letter_by : (b : Bool) (t u : ConversionType) (ts : List ConversionType) (c : ℕ) → has (letters_of u) c ≡ b → cond b (Some u) (conversion_among ts c) ≡ Some t → (conversion_among ts c ≡ Some t → has (letters_of t) c ≡ true) → has (letters_of t) c ≡ true
letter_by true t u ts c h e ih = let same : u ≡ t = cc in subst (λ t. has (letters_of t) c ≡ true) same h
letter_by false t u ts c h e ih = ih e

letter_among : (ts : List ConversionType) (c : ℕ) (t : ConversionType) → conversion_among ts c ≡ Some t → has (letters_of t) c ≡ true
letter_among [] c t e = cc
letter_among (u ∷ ts) c t e = letter_by (has (letters_of u) c) t u ts c refl e (letter_among ts c t)

abbrev ReadsLetter : List ℕ → NumericParam → Option NumericParam → List ℕ → ConversionSpecifier → List ℕ → Type 0
ReadsLetter flags width o text f left = (letter : ℕ) × (t : ConversionType) × (text ≡ letter ∷ left) × (has (letters_of t) letter ≡ true) × (f ≡ field_with flags width o letter t)

letter_sound_by : (r : Option ConversionType) (flags : List ℕ) (width : NumericParam) (o : Option NumericParam) (c : ℕ) (text : List ℕ) (f : ConversionSpecifier) (left : List ℕ) → conversion_of c ≡ r → read_as flags width o c text r ≡ Some (f, left) → ReadsLetter flags width o (c ∷ text) f left
letter_sound_by None flags width o c text f left h e = cc
letter_sound_by (Some t) flags width o c text f left h e = let parts = some_parts _ _ _ _ e in (c, t, ap (λ (x : List ℕ). c ∷ x) parts.1, letter_among all_conversions c t h, sym parts.0)

letter_sound : (flags : List ℕ) (width : NumericParam) (o : Option NumericParam) (text : List ℕ) (f : ConversionSpecifier) (left : List ℕ) → read_letter flags width o text ≡ Some (f, left) → ReadsLetter flags width o text f left
letter_sound flags width o [] f left e = cc
letter_sound flags width o (c ∷ text) f left e = letter_sound_by (conversion_of c) flags width o c text f left refl e

-- ---- the field

abbrev pub ReadsField : List ℕ → ConversionSpecifier → List ℕ → Type 0
ReadsField text f left = (body : List ℕ) × (text ≡ body ++ left) × IsField (37 ∷ body) f

then_some : {A B : Type 0} (o : Option (A × List ℕ)) (next : A → List ℕ → Option B) (b : B) → then_read o next ≡ Some b → (r : A × List ℕ) × (o ≡ Some r) × (next r.0 r.1 ≡ Some b)
then_some None next b e = cc
then_some (Some r) next b e = (r, refl, e)

run_past : (p : ℕ → Bool) (b : Bool) (x : ℕ) (xs : List ℕ) → p x ≡ b → prefix_len p (drop (prefix_len p xs) xs) ≡ 0 → prefix_len p (drop (cond b (1 + prefix_len p xs) 0) (x ∷ xs)) ≡ 0
run_past p true x xs e ih = rw (one-add (prefix_len p xs)) ih
run_past p false x xs e ih = rw e refl

-- behind a longest run no other begins
after_run : (p : ℕ → Bool) (xs : List ℕ) → prefix_len p (drop (prefix_len p xs) xs) ≡ 0
after_run p [] = refl
after_run p (x ∷ xs) = run_past p (p x) x xs refl (after_run p xs)

-- the parts, put together
module _ (flags w p m : List ℕ) (letter : ℕ) (t : ConversionType) (width : NumericParam) (o : Option NumericParam) where
  body : List ℕ
  body = flags ++ w ++ p ++ m ++ letter ∷ []

  whole_from : (text first second third left : List ℕ) → text ≡ flags ++ first → first ≡ w ++ second → second ≡ p ++ third → third ≡ m ++ (letter ∷ left) → text ≡ body ++ left
  unfolding body
  whole_from text first second third left a b c d = rw (a, b, c, d) (simp append_assoc)

  spelled_from : AllPass is_flag flags → IsWidth w width → IsPrecision t p (precision_or_default o t) → (m ≡ []) ⊎ Contains length_modifiers m → has (letters_of t) letter ≡ true → IsField (37 ∷ body) (field_with flags width o letter t)
  unfolding body
  spelled_from all a b c d = record {
    flags = flags;
    width = w;
    precision = p;
    modifier = m;
    letter = letter;
    whole = refl;
    only_flags = all;
    alt_form = refl;
    zero_pad = refl;
    left_adj = refl;
    space_sign = refl;
    force_sign = refl;
    is_width = a;
    is_precision = b;
    is_modifier = c;
    is_letter = d;
  }

field_is : (text left body : List ℕ) (f g : ConversionSpecifier) → text ≡ body ++ left → f ≡ g → IsField (37 ∷ body) g → ReadsField text f left
field_is text left body f g e h k = (body, e, subst (λ x. IsField (37 ∷ body) x) (sym h) k)

flags_pass : (text : List ℕ) → AllPass is_flag (take (prefix_len is_flag text) text)
flags_pass text k d h = prefix_len_passes is_flag (take (prefix_len is_flag text) text) k d (omega (arith, prefix_len-take is_flag text))

pub field_sound : (text left : List ℕ) (f : ConversionSpecifier) → read_field text ≡ Some (f, left) → ReadsField text f left
field_sound text left f e =
    let flags : List ℕ = take (prefix_len is_flag text) text in
    let first : List ℕ = drop (prefix_len is_flag text) text in
    let a = then_some (read_param first) (λ width after. then_read (read_precision after) (λ precision last. read_letter flags width precision (skip_one length_modifiers last))) (f, left) e in
    let b = then_some (read_precision a.0.1) (λ precision last. read_letter flags a.0.0 precision (skip_one length_modifiers last)) (f, left) a.2 in
    let w = param_sound first a.0.1 a.0.0 a.1 in
    let p = precision_sound a.0.1 b.0.1 b.0.0 b.1 in
    let m = skip_sound length_modifiers b.0.1 in
    let l = letter_sound flags a.0.0 b.0.0 (skip_one length_modifiers b.0.1) f left b.2 in
    let none_behind : prefix_len is_flag (w.0 ++ a.0.1) ≡ 0 = subst (λ x. prefix_len is_flag x ≡ 0) w.1 (after_run is_flag text) in
    let last : b.0.1 ≡ m.0 ++ (l.0 ∷ left) = m.1 ∙ ap (λ (x : List ℕ). m.0 ++ x) l.2 in
    let field : ConversionSpecifier = field_with flags a.0.0 b.0.0 l.0 l.1 in
    field_is text left (body flags w.0 p.0 m.0 l.0 l.1 a.0.0 b.0.0) f field
    (whole_from flags w.0 p.0 m.0 l.0 l.1 a.0.0 b.0.0 text first a.0.1 b.0.1 left (sym (take-append-drop (prefix_len is_flag text) text)) w.1 p.1 last)
    l.4
    (spelled_from flags w.0 p.0 m.0 l.0 l.1 a.0.0 b.0.0 (flags_pass text) (width_sound w.2 a.0.1 none_behind) (p.2 l.1) m.2 l.3)
