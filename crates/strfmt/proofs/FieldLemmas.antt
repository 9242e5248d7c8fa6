-- Fields as they are appended, and faults as they are told.
use Rattle.std.proofs.Common.{◌≡◌, ◌≢◌, ◌⊎◌, ◌<◌, Bool, false, inl, inr, ℕ, List, [], ◌∷◌, ◌++◌, Option, Some, None, Result, Ok, Err, refl, sym, ◌∙◌, ap, append-nil, subst, take, suc, zero, true, arith, length, ◌-◌}
use Rattle.std.specs.Prelude.{IsUtf8, IsOkAnd, encode_utf8_all, encode_utf8, unwrap_or, codes, eqb, nat_lt, ◌==◌, ◌||◌, if◌then◌else◌}
use Rattle.std.specs.Char.{is_ascii_control}
use Rattle.std.specs.Fmt.{debug_escape, debug_escape_letter, digits}
use Rattle.std.specs.Str.{chars, all_scalars}
use Rattle.std.proofs.lemmas.Bool.Decides.{nat_tests, eqb_tells}
use Rattle.std.proofs.lemmas.Str.{encodes-chars, chars-encodes, scalars-chars, encode_ascii}
use Rattle.numerals.specs.Answer.{IsAnswerBy}
use Rattle.numerals.specs.Numeral.{numeral}
use Rattle.numerals.proofs.Unique.{numeral-digits}
use Rattle.padding.specs.Field.{fills}
use Rattle.strfmt.specs.declared.cause.Cause.{Cause}
use Rattle.strfmt.specs.declared.cause.Cause.TheVariants.{PaddingAtEqual}
use Rattle.strfmt.specs.declared.types.FmtError.{FmtError}
use Rattle.strfmt.specs.declared.types.FmtError.TheVariants.{NoMemory}
use Rattle.strfmt.specs.Fault.{Outcome, IsFault, escaped, fault_of, unless}
use Rattle.strfmt.specs.Field.{laid, sides, padded}
use Rattle.strfmt.specs.Spec.{Spec, View, Appends}
use Rattle.strfmt.specs.Inner.Reading.{IsFaultOrMemory, escaped_by_cases}

abbrev IsToldAs : Outcome → FmtError → Type 0
IsToldAs outcome error = IsAnswerBy (λ (text : List ℕ). text) IsFault NoMemory outcome (Err error)

-- a fault that is told is the answer
pub told : (outcome : Outcome) (cause : Cause) (error : FmtError) → outcome ≡ Err (fault_of cause) → IsFaultOrMemory (fault_of cause) error → IsToldAs outcome error
told outcome cause error e (inl memory) = inr memory
told outcome cause error e (inr is) = inl (fault_of cause, e, is)

-- the first failure of the checks is the fault of the whole
pub told_first : (failure : Option Cause) (outcome : Outcome) (cause : Cause) (error : FmtError) → Some cause ≡ failure → IsFaultOrMemory (fault_of cause) error → IsToldAs (unless failure outcome) error
told_first failure outcome cause error e t = told (unless failure outcome) cause error (ap (λ (f : Option Cause). unless f outcome) (sym e)) t

-- without a failure what is appended is the whole
pub appended_first : (failure : Option Cause) (outcome : Outcome) (old new : View) (result : Result (Unit {0}) FmtError) → None ≡ failure → Appends outcome old result new → Appends (unless failure outcome) old result new
appended_first failure outcome old new result e h = let P : Option Cause → Type 0 = λ f. Appends (unless f outcome) old result new in subst P e h

-- there is no place for fills
pub no_sides : (spec : Spec) (front cs : List ℕ) (error : FmtError) (s : Option (ℕ × ℕ)) → s ≡ sides spec.align (unwrap_or spec.width 0 - length cs) → s ≡ None → IsFaultOrMemory (fault_of PaddingAtEqual) error → IsToldAs (padded spec front cs) error
no_sides spec front cs error s e n t =
    told (padded spec front cs) PaddingAtEqual error (ap (λ (x : Option (ℕ × ℕ)). laid front x spec.fill cs) (sym e ∙ n)) t

-- a field without zeros is a front and characters between their fills
pub laid_bytes : (spec : Spec) (front text : List ℕ) (s : ℕ × ℕ) → IsUtf8 text → Some s ≡ sides spec.align (unwrap_or spec.width 0 - length (chars text))
    → padded spec front (chars text) ≡ Ok (front ++ fills s.0 spec.fill ++ [] ++ [] ++ text ++ fills s.1 spec.fill)
laid_bytes spec front text s u e =
    let l : List ℕ = front ++ fills s.0 spec.fill in
    let bare : l ++ [] ++ [] ≡ l = append-nil (l ++ []) ∙ append-nil l in
    let bytes : l ++ encode_utf8_all (chars text) ++ fills s.1 spec.fill ≡ l ++ [] ++ [] ++ text ++ fills s.1 spec.fill =
    ap (λ (bs : List ℕ). l ++ bs ++ fills s.1 spec.fill) (encodes-chars text u) ∙ ap (λ (bs : List ℕ). bs ++ text ++ fills s.1 spec.fill) (sym bare) in
    ap (λ (x : Option (ℕ × ℕ)). laid front x spec.fill (chars text)) (sym e) ∙ ap (λ (bs : List ℕ). Ok bs) bytes

pub appends_ok : (outcome : Outcome) (text : List ℕ) (old new : View) → outcome ≡ Ok text → new ≡ record old { text = old.text ++ text } → IsOkAnd outcome (λ (added : List ℕ). new ≡ record old { text = old.text ++ added })
appends_ok outcome text old new e h = let P : Outcome → Type 0 = λ o. IsOkAnd o (λ (added : List ℕ). new ≡ record old { text = old.text ++ added }) in subst P (sym e) h

-- the front of a list of characters is one
scalars-take : (n : ℕ) (cs : List ℕ) → all_scalars cs ≡ true → all_scalars (take n cs) ≡ true
scalars-take zero cs h = refl
scalars-take (suc n) [] h = refl
scalars-take (suc n) (c ∷ cs) h = grind (arith, nat_tests, h, scalars-take n cs)

pub chars_front : (text : List ℕ) (n : ℕ) → IsUtf8 text → chars (encode_utf8_all (take n (chars text))) ≡ take n (chars text)
chars_front text n u = chars-encodes (take n (chars text)) (scalars-take n (chars text) (scalars-chars text u))

-- the debug text of a character, case by case
abbrev Told : ℕ → ℕ → Type 0
Told c b = ((eqb c b ≡ true) × (c ≡ b)) ⊎ ((eqb c b ≡ false) × (c ≢ b))

same_control : (c : ℕ) → (nat_lt c 32 || eqb c 127) ≡ is_ascii_control c
same_control c = grind (arith, nat_tests)

past_ascii : (c : ℕ) → (nat_lt c 32 || eqb c 127) ≡ true → nat_lt c 128 ≡ false → ⊥
past_ascii c k a = grind (arith, nat_tests, k, a)

plain_is : (c : ℕ) (control ascii : Bool) → (nat_lt c 32 || eqb c 127) ≡ control → nat_lt c 128 ≡ ascii
    → (if ascii then (if control then 92 ∷ 117 ∷ 123 ∷ (digits 16 false c ++ 125 ∷ []) else c ∷ []) else encode_utf8 c) ≡ (if control then codes "\\u{" ++ numeral 16 false c ++ codes "}" else encode_utf8 c)
plain_is c true true k a =
    let small : c < 128 = grind (arith, nat_tests, a) in
    ap (λ (ds : List ℕ). 92 ∷ 117 ∷ 123 ∷ (ds ++ 125 ∷ [])) (sym (numeral-digits 16 c false (omega arith) (omega (arith, small))))
plain_is c false true k a =
    let small : c < 128 = grind (arith, nat_tests, a) in
    sym (encode_ascii c small)
plain_is c false false k a = refl
plain_is c true false k a = absurd (past_ascii c k a)

escaped_at : (c : ℕ) → Told c 39 → Told c 92 → Told c 0 → Told c 9 → Told c 13 → Told c 10 → escaped c ≡ escaped_by_cases c
unfolding debug_escape
escaped_at c (inl q) b z t r n = rw q.1 refl
escaped_at c (inr q) (inl b) z t r n = rw b.1 refl
escaped_at c (inr q) (inr b) (inl z) t r n = rw z.1 refl
escaped_at c (inr q) (inr b) (inr z) (inl t) r n = rw t.1 refl
escaped_at c (inr q) (inr b) (inr z) (inr t) (inl r) n = rw r.1 refl
escaped_at c (inr q) (inr b) (inr z) (inr t) (inr r) (inl n) = rw n.1 refl
escaped_at c (inr q) (inr b) (inr z) (inr t) (inr r) (inr n) =
    let letter : debug_escape_letter c 39 ≡ 0 = rw (q.0, z.0, t.0, n.0, r.0, b.0) refl in
    let std : debug_escape 39 c ≡ (if nat_lt c 32 || eqb c 127 then 92 ∷ 117 ∷ 123 ∷ (digits 16 false c ++ 125 ∷ []) else c ∷ []) =
    ap (λ (l : ℕ). if l == 0 then (if nat_lt c 32 || eqb c 127 then 92 ∷ 117 ∷ 123 ∷ (digits 16 false c ++ 125 ∷ []) else c ∷ []) else 92 ∷ l ∷ []) letter in
    let cases : escaped_by_cases c ≡ (if is_ascii_control c then codes "\\u{" ++ numeral 16 false c ++ codes "}" else encode_utf8 c) = rw (q.0, b.0, z.0, t.0, r.0, n.0) refl in
    ap (λ (bs : List ℕ). if nat_lt c 128 then bs else encode_utf8 c) std
    ∙ plain_is c (nat_lt c 32 || eqb c 127) (nat_lt c 128) refl refl
    ∙ ap (λ (x : Bool). if x then codes "\\u{" ++ numeral 16 false c ++ codes "}" else encode_utf8 c) (same_control c)
    ∙ sym cases

pub escaped_is : (c : ℕ) → escaped c ≡ escaped_by_cases c
escaped_is c = escaped_at c (eqb_tells c 39) (eqb_tells c 92) (eqb_tells c 0) (eqb_tells c 9) (eqb_tells c 13) (eqb_tells c 10)
