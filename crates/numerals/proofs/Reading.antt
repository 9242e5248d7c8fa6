-- What a numeral's characters stand for, and which texts are numerals.
use Rattle.std.proofs.Common.{suc, zero, Bool, true, false, ◌≢◌, ◌≡◌, ℕ, ◌^◌, ◌<◌, ◌≤◌, List, [], ◌∷◌, length, map, refl, sym, ap, ◌∙◌, subst, arith, get_or}
use Rattle.std.proofs.lemmas.List.{length-map}
use Rattle.std.proofs.lemmas.Bool.Decides.{nat_tests}
use Rattle.std.specs.Fmt.{digit_glyph}
use Rattle.std.specs.Char.{digit_value}
use Rattle.numerals.specs.Numeral.{place_sum, AllBelow, IsNumeral, numeral, IsDigitText, text_value, base_of}
use Rattle.numerals.specs.declared.Radix.{Radix}
use Rattle.numerals.specs.declared.Radix.TheVariants.{Two, Eight, Ten, Sixteen}
use Rattle.std.specs.Str.{IsAscii, IsUtf8}
use Rattle.std.proofs.lemmas.Str.{IsUtf8-from_ascii}
use Rattle.numerals.specs.Laws.{IsOfCase, AllOfCase, HasNoLeadingZero}
use Rattle.numerals.proofs.Unique.{numeral_is, numeral_only}

-- a digit's character stands for it
pub digit_value-digit_glyph : (upper : Bool) (d : ℕ) → d < 16 → digit_value (digit_glyph upper d) ≡ d
digit_value-digit_glyph true d h = grind (arith, nat_tests)
digit_value-digit_glyph false d h = grind (arith, nat_tests)

-- a digit is written by the character of its case that stands for it
pub digit_glyph-digit_value : (upper : Bool) (c : ℕ) → digit_value c < 16 → IsOfCase upper c → digit_glyph upper (digit_value c) ≡ c
digit_glyph-digit_value true c h k = grind (arith, nat_tests)
digit_glyph-digit_value false c h k = grind (arith, nat_tests)

-- the digits of characters are the characters' digits
values_of_glyphs : (upper : Bool) (b : ℕ) (ds : List ℕ) → b ≤ 16 → AllBelow b ds → map digit_value (map (digit_glyph upper) ds) ≡ ds
values_of_glyphs upper b [] high h = refl
values_of_glyphs upper b (d ∷ ds) high h =
    let first : digit_value (digit_glyph upper d) ≡ d = digit_value-digit_glyph upper d (omega (arith, high, h.0)) in
    let rest : map digit_value (map (digit_glyph upper) ds) ≡ ds = values_of_glyphs upper b ds high h.1 in
    λ i. first i ∷ rest i

glyphs_of_values : (upper : Bool) (b : ℕ) (text : List ℕ) → b ≤ 16 → AllBelow b (map digit_value text) → AllOfCase upper text → map (digit_glyph upper) (map digit_value text) ≡ text
glyphs_of_values upper b [] high h k = refl
glyphs_of_values upper b (c ∷ cs) high h k =
    let first : digit_glyph upper (digit_value c) ≡ c = digit_glyph-digit_value upper c (omega (arith, high, h.0)) k.0 in
    let rest : map (digit_glyph upper) (map digit_value cs) ≡ cs = glyphs_of_values upper b cs high h.1 k.1 in
    λ i. first i ∷ rest i

-- a numeral's characters are its digits
pub numeral_reads : (b n : ℕ) (upper : Bool) → 2 ≤ b → b ≤ 16 → n < 2 ^ 128 → IsDigitText b (numeral b upper n) × (text_value b (numeral b upper n) ≡ n)
numeral_reads b n upper low high fits =
    let it = numeral_is b n upper low fits in
    let ds : List ℕ = it.0 in
    let digits : map digit_value (numeral b upper n) ≡ ds = ap (map digit_value) it.2 ∙ values_of_glyphs upper b ds high it.1.below in
    let some : 0 < length (numeral b upper n) = omega (arith, ap length it.2, length-map ds (digit_glyph upper), it.1.some) in
    ((some, subst (AllBelow b) (sym digits) it.1.below), ap (place_sum b) digits ∙ it.1.adds_up)

not_zero : (c : ℕ) → digit_value c < 16 → c ≢ 48 → 0 < digit_value c
not_zero c h k = grind (arith, nat_tests)

leads_on : (text : List ℕ) → AllBelow 16 (map digit_value text) → 1 < length text → get_or text 0 0 ≢ 48 → 0 < get_or (map digit_value text) 0 0
leads_on [] h l k = absurd (omega (arith, l))
leads_on (c ∷ cs) h l k = not_zero c h.0 k

AllBelow-wider : (b c : ℕ) (ds : List ℕ) → b ≤ c → AllBelow b ds → AllBelow c ds
AllBelow-wider b c [] le h = tt
AllBelow-wider b c (d ∷ ds) le h = (omega (arith, le, h.0), AllBelow-wider b c ds le h.1)

-- digits in one case of letters without a leading zero are the numeral of what they stand for
pub numeral-text_value : (b : ℕ) (upper : Bool) (text : List ℕ) → 2 ≤ b → b ≤ 16 → IsDigitText b text → AllOfCase upper text → HasNoLeadingZero text → text_value b text < 2 ^ 128 → text ≡ numeral b upper (text_value b text)
numeral-text_value b upper text low high it letters lead fits =
    let ds : List ℕ = map digit_value text in
    let len : length ds ≡ length text = length-map text digit_value in
    let own : IsNumeral b (text_value b text) ds = record {
      some = omega (arith, len, it.0);
      below = it.1;
      adds_up = refl;
      no_leading_zero = λ more. let l : 1 < length text = omega (arith, len, more) in leads_on text (AllBelow-wider b 16 ds high it.1) l (lead l);
    } in
    numeral_only b (text_value b text) upper text low fits (ds, own, sym (glyphs_of_values upper b text high it.1 letters))

-- a digit's character is ASCII
pub digit_glyph-lt : (upper : Bool) (d : ℕ) → d < 16 → digit_glyph upper d < 128
digit_glyph-lt true d h = grind (arith, nat_tests)
digit_glyph-lt false d h = grind (arith, nat_tests)

glyphs-IsAscii : (upper : Bool) (b : ℕ) (ds : List ℕ) → b ≤ 16 → AllBelow b ds → IsAscii (map (digit_glyph upper) ds)
glyphs-IsAscii upper b [] high h i = omega arith
glyphs-IsAscii upper b (d ∷ ds) high h zero = digit_glyph-lt upper d (omega (arith, high, h.0))
glyphs-IsAscii upper b (d ∷ ds) high h (suc i) = glyphs-IsAscii upper b ds high h.1 i

-- numerals are ASCII, so they are text
pub numeral-IsAscii : (b n : ℕ) (upper : Bool) → 2 ≤ b → b ≤ 16 → n < 2 ^ 128 → IsAscii (numeral b upper n)
numeral-IsAscii b n upper low high fits = let it = numeral_is b n upper low fits in subst IsAscii (sym it.2) (glyphs-IsAscii upper b it.0 high it.1.below)

pub numeral-IsUtf8 : (b n : ℕ) (upper : Bool) → 2 ≤ b → b ≤ 16 → n < 2 ^ 128 → IsUtf8 (numeral b upper n)
numeral-IsUtf8 b n upper low high fits = IsUtf8-from_ascii (numeral b upper n) (numeral-IsAscii b n upper low high fits)

-- both ends of the bases
pub base_of-le : (radix : Radix) → (2 ≤ base_of radix) × (base_of radix ≤ 16)
base_of-le Two = (omega arith, omega arith)
base_of-le Eight = (omega arith, omega arith)
base_of-le Ten = (omega arith, omega arith)
base_of-le Sixteen = (omega arith, omega arith)
