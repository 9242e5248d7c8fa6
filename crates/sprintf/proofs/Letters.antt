-- The characters that stand for conversions.
use Rattle.std.proofs.Common.{◌≡◌, ℕ, ◌<◌, ◌≤◌, false, List, [], ◌∷◌, ◌++◌, Option, Some, None, encode_utf8, ◌⊎◌, inl, inr, refl, arith}
use Rattle.std.proofs.lemmas.Bool.Decides.{nat_tests}
use Rattle.sprintf.specs.declared.parser.ConversionType.{ConversionType}
use Rattle.sprintf.specs.declared.parser.ConversionType.TheVariants.{DecInt, OctInt, HexIntLower, HexIntUpper, SciFloatLower, SciFloatUpper, DecFloatLower, DecFloatUpper, CompactFloatLower, CompactFloatUpper, Char, String, PercentSign}
use Rattle.sprintf.specs.Grammar.{has, letters_of}
use Rattle.std.proofs.lemmas.Str.{char_from_byte, encode_ascii}
use Rattle.std.proofs.lemmas.Bool.{cases_lt}
use Rattle.sprintf.specs.declared.parser.NumericParam.{NumericParam}
use Rattle.sprintf.specs.Inner.Reading.{conversion_among, conversion_of, all_conversions, read_letter, field_with}

-- no letter is above ASCII
has-high : (c : ℕ) (t : ConversionType) → 128 ≤ c → has (letters_of t) c ≡ false
has-high c DecInt h = grind (arith, nat_tests)
has-high c OctInt h = grind (arith, nat_tests)
has-high c HexIntLower h = grind (arith, nat_tests)
has-high c HexIntUpper h = grind (arith, nat_tests)
has-high c SciFloatLower h = grind (arith, nat_tests)
has-high c SciFloatUpper h = grind (arith, nat_tests)
has-high c DecFloatLower h = grind (arith, nat_tests)
has-high c DecFloatUpper h = grind (arith, nat_tests)
has-high c CompactFloatLower h = grind (arith, nat_tests)
has-high c CompactFloatUpper h = grind (arith, nat_tests)
has-high c Char h = grind (arith, nat_tests)
has-high c String h = grind (arith, nat_tests)
has-high c PercentSign h = grind (arith, nat_tests)

among-high : (ts : List ConversionType) (c : ℕ) → 128 ≤ c → conversion_among ts c ≡ None
among-high [] c h = refl
among-high (t ∷ ts) c h = rw (has-high c t h) (among-high ts c h)

pub conversion_of-high : (c : ℕ) → 128 ≤ c → conversion_of c ≡ None
conversion_of-high c h = among-high all_conversions c h

module _ (flags : List ℕ) (width : NumericParam) (precision : Option NumericParam) where
  by_first : (b c : ℕ) (bs : List ℕ) → (b < 128 → c ≡ b) → conversion_of c ≡ None → (b < 128) ⊎ (128 ≤ b) → read_letter flags width precision (b ∷ bs) ≡ None
  by_first b c bs low e (inl h) = let f : conversion_of b ≡ None = rw (low h) at e in rw f refl
  by_first b c bs low e (inr h) = rw (conversion_of-high b h) refl

  -- a character that stands for no conversion
  pub read_letter-none : (text rest : List ℕ) (c : ℕ) → text ≡ encode_utf8 c ++ rest → conversion_of c ≡ None → read_letter flags width precision text ≡ None
  read_letter-none [] rest c e f = refl
  read_letter-none (b ∷ bs) rest c e f = by_first b c bs (λ h. char_from_byte (b ∷ bs) rest c e h (omega arith)) f (cases_lt b 128)

  by_size : (t : ConversionType) (text rest : List ℕ) (c : ℕ) → text ≡ encode_utf8 c ++ rest → conversion_of c ≡ Some t → (c < 128) ⊎ (128 ≤ c) → read_letter flags width precision text ≡ Some (field_with flags width precision c t, rest)
  by_size t text rest c e f (inl h) = rw (e, encode_ascii c h, f) refl
  by_size t text rest c e f (inr h) = let g : conversion_of c ≡ None = conversion_of-high c h in cc

  pub read_letter-some : (t : ConversionType) (text rest : List ℕ) (c : ℕ) → text ≡ encode_utf8 c ++ rest → conversion_of c ≡ Some t → read_letter flags width precision text ≡ Some (field_with flags width precision c t, rest)
  read_letter-some t text rest c e f = by_size t text rest c e f (cases_lt c 128)
