-- Bytes and characters: cuts of a text, and what stands before them.
use Rattle.std.proofs.Common.{◌≡◌, ◌≢◌, ◌<◌, ◌≤◌, ◌-◌, ℕ, zero, suc, true, List, [], ◌∷◌, ◌++◌, length, take, sym, ap, subst, refl, ◌∙◌, arith, append_assoc, length-append, encode_utf8, Some}
use Rattle.std.specs.List.{AllByRecursion}
use Rattle.std.specs.Char.{IsScalar}
use Rattle.std.specs.Str.{chars, IsUtf8, IsAscii, IsCharBoundary, encode_utf8_all, all_scalars}
use Rattle.std.proofs.lemmas.Bool.{and_parts}
use Rattle.std.proofs.lemmas.Str.{chars-append, chars-IsAscii, chars-nil, chars_past_char, IsUtf8-from_ascii, IsUtf8-append, IsUtf8-nil, IsUtf8-encode, IsUtf8-take, IsCharBoundary-at_seam, IsCharBoundary-from_take, encodes-chars, encodes-IsAscii, encodes-append, scalars-chars}
use Rattle.std.proofs.lemmas.List.{append-nil, append_cancel_right, take_at}
use Rattle.scan_fmt.specs.Grammar.{first}
use Rattle.scan_fmt.specs.Scanned.{IsLongest}
use Rattle.scan_fmt.specs.Sets.{IsListing}
use Rattle.scan_fmt.proofs.Longest.{longest_stops}
use Rattle.scan_fmt.proofs.Digits.{each_at}

-- what stands before the rest of a text, and a property of its characters
pub record Passed (P : List ℕ → Type 0) (text rest : List ℕ) : Type 0 where
  pub front : List ℕ
  pub whole : text ≡ front ++ rest
  pub utf8 : IsUtf8 front
  pub shape : P (chars front)

pub passed_none : (P : List ℕ → Type 0) (text : List ℕ) → P [] → Passed P text text
passed_none P text has = record { front = []; whole = refl; utf8 = IsUtf8-nil; shape = subst P (sym chars-nil) has }

scalar_of : (rest more : List ℕ) (c : ℕ) → IsUtf8 rest → rest ≡ encode_utf8 c ++ more → IsScalar c
scalar_of rest more c utf8 is =
    let all : all_scalars (c ∷ chars more) ≡ true = subst (λ (t : List ℕ). all_scalars t ≡ true) (chars_past_char rest more c utf8 is) (scalars-chars rest utf8) in
    (and_parts _ _ all).0

char_alone : (c : ℕ) → IsScalar c → chars (encode_utf8 c) ≡ c ∷ []
char_alone c is = chars_past_char (encode_utf8 c) [] c (IsUtf8-encode c is) (sym (append-nil (encode_utf8 c))) ∙ ap (λ (t : List ℕ). c ∷ t) chars-nil

-- one more character
pub passed_more : (P Q : List ℕ → Type 0) (text rest more : List ℕ) (c : ℕ) → IsUtf8 rest → rest ≡ encode_utf8 c ++ more → ((front : List ℕ) → P front → Q (front ++ c ∷ [])) → Passed P text rest → Passed Q text more
passed_more P Q text rest more c utf8 is grows passed =
    let scalar : IsScalar c = scalar_of rest more c utf8 is in
    record {
      front = passed.front ++ encode_utf8 c;
      whole = passed.whole ∙ ap (λ (t : List ℕ). passed.front ++ t) is ∙ sym (append_assoc passed.front (encode_utf8 c) more);
      utf8 = IsUtf8-append passed.front (encode_utf8 c) passed.utf8 (IsUtf8-encode c scalar);
      shape = subst Q (sym (chars-append passed.front (encode_utf8 c) passed.utf8 ∙ ap (λ (t : List ℕ). chars passed.front ++ t) (char_alone c scalar))) (grows (chars passed.front) passed.shape);
    }

pub passed_first : (Q : List ℕ → Type 0) (text more : List ℕ) (c : ℕ) → IsUtf8 text → text ≡ encode_utf8 c ++ more → Q (c ∷ []) → Passed Q text more
passed_first Q text more c utf8 is has = passed_more (λ front. front ≡ []) Q text text more c utf8 is (λ front none. subst (λ (t : List ℕ). Q (t ++ c ∷ [])) (sym none) has) (passed_none (λ front. front ≡ []) text refl)

-- the front that was cut off has the property
pub passed_is : (P : List ℕ → Type 0) (text front rest : List ℕ) → text ≡ front ++ rest → Passed P text rest → P (chars front)
passed_is P text front rest whole passed = subst (λ (t : List ℕ). P (chars t)) (append_cancel_right passed.front front rest (sym passed.whole ∙ whole)) passed.shape

-- where a text may be cut before its rest
pub seam : (text front rest : List ℕ) → text ≡ front ++ rest → IsUtf8 rest → IsCharBoundary text (length text - length rest)
seam text front rest whole utf8 =
    let at : length front ≡ length text - length rest = omega (arith, ap length whole, length-append front rest) in
    subst (IsCharBoundary text) at (IsCharBoundary-at_seam text front rest whole utf8)

-- a run that ends where the next character doesn't suit
pub run_end : (S : ℕ → Type 0) (text front rest : List ℕ) → text ≡ front ++ rest → AllByRecursion S front → ((c : ℕ) → first rest ≡ Some c → S c → ⊥) → IsLongest (AllByRecursion S) text front rest
run_end S text front rest whole each stops = longest_stops (AllByRecursion S) text front rest whole each (λ c more at can. stops c at (each_at S c front more can))

pub each_more : (S : ℕ → Type 0) (c : ℕ) (front : List ℕ) → S c → AllByRecursion S front → AllByRecursion S (front ++ c ∷ [])
each_more S c [] h each = (h, tt)
each_more S c (x ∷ front) h each = (each.0, each_more S c front h each.1)

-- listings
pub listing_more : (c : ℕ) (front : List ℕ) → c ≢ 93 → IsListing true front → IsListing true (front ++ c ∷ [])
listing_more c [] h is = absurd is
listing_more c (x ∷ front) h is = (is.0, each_more (λ d. d ≢ 93) c front h is.1)

pub listing_none : (front l r : List ℕ) → IsListing true front → front ≡ l ++ 93 ∷ r → IsListing true l → ⊥
listing_none front [] r is e has = absurd has
listing_none [] (x ∷ l) r is e has = absurd is
listing_none (y ∷ front) (x ∷ l) r is e has = (let same : front ≡ l ++ 93 ∷ r = cc in each_at (λ d. d ≢ 93) 93 l r (subst (AllByRecursion (λ d. d ≢ 93)) same is.1) refl)

-- a front of ASCII bytes
pub ascii_from : (xs : List ℕ) → AllByRecursion (λ c. c < 128) xs → IsAscii xs
ascii_from [] h i = omega arith
ascii_from (x ∷ xs) h zero = h.0
ascii_from (x ∷ xs) h (suc i) = ascii_from xs h.1 i

pub ascii_cut : (bytes : List ℕ) (n : ℕ) → IsUtf8 bytes → n ≤ length bytes → AllByRecursion (λ c. c < 128) (take n bytes) → IsCharBoundary bytes n
ascii_cut bytes n utf8 within each = IsCharBoundary-from_take bytes n utf8 within (IsUtf8-from_ascii (take n bytes) (ascii_from (take n bytes) each))

pub ascii_longest : (P : List ℕ → Type 0) (bytes front rest : List ℕ) → ((t : List ℕ) → P t → AllByRecursion (λ c. c < 128) t) → IsUtf8 bytes → IsLongest P bytes front rest → IsLongest P (chars bytes) (chars front) (chars rest)
ascii_longest P bytes front rest ascii utf8 long =
    let plain : IsAscii front = ascii_from front (ascii front long.shape) in
    let same : chars front ≡ front = chars-IsAscii front plain in
    record {
      whole = ap chars long.whole ∙ chars-append front rest (IsUtf8-from_ascii front plain);
      shape = subst P (sym same) long.shape;
      longest = λ other more e can.
          let whole : bytes ≡ other ++ encode_utf8_all more =
          sym (encodes-chars bytes utf8) ∙ ap encode_utf8_all e ∙ encodes-append other more ∙ ap (λ (t : List ℕ). t ++ encode_utf8_all more) (encodes-IsAscii other (ascii_from other (ascii other can))) in
          omega (arith, long.longest other (encode_utf8_all more) whole can, ap length same);
    }

-- the front before a rest
pub front_is : (text front rest : List ℕ) → text ≡ front ++ rest → take (length text - length rest) text ≡ front
front_is text front rest whole =
    let at : length front ≡ length text - length rest = omega (arith, ap length whole, length-append front rest) in
    ap (λ (t : List ℕ). take (length text - length rest) t) whole ∙ take_at front rest (length text - length rest) at

pub front_chars : (text front rest : List ℕ) → text ≡ front ++ rest → IsUtf8 text → IsUtf8 rest → chars text ≡ chars front ++ chars rest
front_chars text front rest whole utf8 utf8_rest =
    let front_utf8 : IsUtf8 front = subst IsUtf8 (front_is text front rest whole) (IsUtf8-take text (length text - length rest) utf8 (seam text front rest whole utf8_rest)) in
    ap chars whole ∙ chars-append front rest front_utf8

-- where nothing is left, the whole text was passed
pub passed_chars : (P : List ℕ → Type 0) (text rest : List ℕ) (passed : Passed P text rest) → chars rest ≡ [] → chars text ≡ chars passed.front
passed_chars P text rest passed none = ap chars passed.whole ∙ chars-append passed.front rest passed.utf8 ∙ ap (λ (t : List ℕ). chars passed.front ++ t) none ∙ append-nil (chars passed.front)

pub ascii_same : (front : List ℕ) → AllByRecursion (λ c. c < 128) front → chars front ≡ front
ascii_same front each = chars-IsAscii front (ascii_from front each)

-- a text is empty where it has no character
pub empty_chars : (text : List ℕ) → length text ≡ 0 → chars text ≡ []
empty_chars [] e = chars-nil
empty_chars (x ∷ text) e = absurd (omega arith)

pub some_chars : (text : List ℕ) → IsUtf8 text → ¬ (length text ≡ 0) → chars text ≢ []
some_chars text utf8 some none = let e : text ≡ [] = sym (encodes-chars text utf8) ∙ ap encode_utf8_all none in some (ap length e)
