-- What std's reading says of the numbers that a text spells.
use Rattle.std.proofs.Common.{◌≡◌, ℕ, ◌<◌, ◌^◌, ◌-◌, List, [], ◌∷◌, Bool, true, false, Result, Ok, Err, refl, arith, sym, ap, length, ℤ, pos, negsuc, subst}
use Rattle.std.specs.Prelude.{◌&&◌, nat_lt, nat_eq, FitsSigned}
use Rattle.std.specs.List.{list_all}
use Rattle.std.specs.Char.{digit_value}
use Rattle.std.specs.Result.{result_ok}
use Rattle.std.specs.Str.Parse.{AllDigits, IsNumeral, ParsesUnsigned, ParsesSigned}
use Rattle.std.proofs.lemmas.Bool.Decides.{nat_tests, Decides-int_eq}
use Rattle.std.proofs.lemmas.Bool.{eqb-true}
use Rattle.std.specs.Int.{Width}
use mir.Val.{hbits}
use Rattle.std.specs.Ordering.{int_eq}
use Rattle.strfmt.specs.Key.{is_decimal, is_within, spells_unsigned, spells_signed, IsKey}

lt_true : (a b : ℕ) → a < b → nat_lt a b ≡ true
lt_true a b h = grind (arith, nat_tests, h)

lt_from : (a b : ℕ) → nat_lt a b ≡ true → a < b
lt_from a b h = grind (arith, nat_tests, h)

both : (a b : Bool) → (a && b) ≡ true → (a ≡ true) × (b ≡ true)
both true b h = (refl, h)
both false b h = cc

-- the tests of digits are the facts
digits_from : (bs : List ℕ) → list_all (λ c. nat_lt (digit_value c) 10) bs ≡ true → AllDigits 10 bs
digits_from [] h = tt
digits_from (b ∷ bs) h =
    let s = both (nat_lt (digit_value b) 10) (list_all (λ c. nat_lt (digit_value c) 10) bs) h in
    (lt_from (digit_value b) 10 s.0, digits_from bs s.1)

digits_to : (bs : List ℕ) → AllDigits 10 bs → list_all (λ c. nat_lt (digit_value c) 10) bs ≡ true
digits_to [] h = refl
digits_to (b ∷ bs) h =
    let small : nat_lt (digit_value b) 10 ≡ true = lt_true (digit_value b) 10 h.0 in
    rw (small, digits_to bs h.1) refl

decimal_from : (digits : List ℕ) → is_decimal digits ≡ true → IsNumeral 10 digits
decimal_from digits h =
    let s = both (nat_lt 0 (length digits)) (list_all (λ c. nat_lt (digit_value c) 10) digits) h in
    (lt_from 0 (length digits) s.0, digits_from digits s.1)

decimal_to : (digits : List ℕ) → IsNumeral 10 digits → is_decimal digits ≡ true
decimal_to digits h = rw (lt_true 0 (length digits) h.0, digits_to digits h.1) refl

-- a key that is read, and none
found : (a d e f : Bool) → a ≡ e → d ≡ true → (e ≡ true → f ≡ true) → a ≡ (d && (e && f))
found a d true f same decimal fits = rw (decimal, fits refl) same
found a d false f same decimal fits = rw decimal same

missing : (d e f : Bool) → (d ≡ true → e ≡ true → f ≡ true → ⊥) → (d && (e && f)) ≡ false
missing false e f h = refl
missing true false f h = refl
missing true true false h = refl
missing true true true h = absurd (h refl refl refl)

pub unsigned_key : {E : Type 0} (bits : ℕ) (text : List ℕ) (read : Result ℕ E) → ParsesUnsigned bits 10 text read → IsKey nat_eq (spells_unsigned bits text) (result_ok read)
unsigned_key bits text (Ok n) h = λ other.
    found (nat_eq n other) _ _ _ (ap (λ m. nat_eq m other) h.1) (decimal_to _ h.0.0)
    (λ t. lt_true other (2 ^ bits) (let P : ℕ → Type 0 = λ m. m < 2 ^ bits in subst P (eqb-true _ _ t) h.0.1))
unsigned_key bits text (Err e) h = λ other.
    missing _ _ _ (λ d t f.
    let P : ℕ → Type 0 = λ m. m < 2 ^ bits in
    h (decimal_from _ d, subst P (sym (eqb-true _ _ t)) (lt_from other (2 ^ bits) f)))

-- the tests of a range are the facts
within_from : (w : Width) (k : ℕ) (z : ℤ) → hbits w ≡ k - 1 → is_within k z ≡ true → FitsSigned w z
within_from w k (pos n) e h = record { sfits = rw e (lt_from n (2 ^ (k - 1)) h) }
within_from w k (negsuc n) e h = record { sfits = rw e (lt_from n (2 ^ (k - 1)) h) }

within_to : (w : Width) (k : ℕ) (z : ℤ) → hbits w ≡ k - 1 → FitsSigned w z → is_within k z ≡ true
within_to w k (pos n) e h = lt_true n (2 ^ (k - 1)) (rw e at h.sfits)
within_to w k (negsuc n) e h = lt_true n (2 ^ (k - 1)) (rw e at h.sfits)

pub signed_key : {E : Type 0} (w : Width) (k : ℕ) (text : List ℕ) (read : Result ℤ E) → hbits w ≡ k - 1 → ParsesSigned w 10 text read → IsKey int_eq (spells_signed k text) (result_ok read)
signed_key w k text (Ok z) e h = λ other.
    found (int_eq z other) _ _ _ (ap (λ m. int_eq m other) h.1) (decimal_to _ h.0.0)
    (λ t. within_to w k other e (let P : ℤ → Type 0 = λ m. FitsSigned w m in subst P ((Decides-int_eq _ _).0 t) h.0.1))
signed_key w k text (Err error) e h = λ other.
    missing _ _ _ (λ d t f.
    let P : ℤ → Type 0 = λ m. FitsSigned w m in
    h (decimal_from _ d, subst P (sym ((Decides-int_eq _ _).0 t)) (within_from w k other e f)))
