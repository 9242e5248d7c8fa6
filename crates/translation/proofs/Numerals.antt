-- Numerals as texts.
use Rattle.std.proofs.Common.{◌≡◌, ℕ, suc, zero, ◌/◌, ◌%◌, Bool, true, false, List, [], ◌∷◌, refl}
use Rattle.std.specs.Prelude.{◌==◌, if◌then◌else◌}
use Rattle.std.specs.Fmt.{digits_onto, digit_glyph}
use Rattle.numerals.specs.Numeral.{numeral}

-- the text has a first byte
pub record HasFirst (text : List ℕ) : Type 0 where
  pub first : ℕ
  pub others : List ℕ
  pub is : text ≡ first ∷ others

digits_cons : (k base n : ℕ) (upper : Bool) (acc : List ℕ) → HasFirst (digits_onto (suc k) base upper n acc)
digits_cons zero base n upper acc = by_test (n / base == 0)
  where
    by_test : (b : Bool) → HasFirst (if b then digit_glyph upper (n % base) ∷ acc else digit_glyph upper (n % base) ∷ acc)
    by_test true = record { first = digit_glyph upper (n % base); others = acc; is = refl }
    by_test false = record { first = digit_glyph upper (n % base); others = acc; is = refl }
digits_cons (suc k) base n upper acc = by_test (n / base == 0) (digits_cons k base (n / base) upper (digit_glyph upper (n % base) ∷ acc))
  where
    by_test : (b : Bool) → HasFirst (digits_onto (suc k) base upper (n / base) (digit_glyph upper (n % base) ∷ acc)) → HasFirst (if b then digit_glyph upper (n % base) ∷ acc else digits_onto (suc k) base upper (n / base) (digit_glyph upper (n % base) ∷ acc))
    by_test true h = record { first = digit_glyph upper (n % base); others = acc; is = refl }
    by_test false h = h

-- each numeral has a digit
pub numeral_first : (base n : ℕ) (upper : Bool) → HasFirst (numeral base upper n)
unfolding numeral
numeral_first base n upper = digits_cons 127 base n upper []
