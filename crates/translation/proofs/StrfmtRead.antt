-- How strfmt reads a translated field.
use Rattle.std.proofs.Common.{◌≡◌, ◌≢◌, ◌⊎◌, inl, inr, ℕ, suc, zero, ◌+◌, ◌<◌, ◌≤◌, ◌^◌, Bool, true, false, List, [], ◌∷◌, ◌++◌, length, get_or, drop, take, Option, Some, None, Result, Ok, Err, refl, ap, sym, ◌∙◌, subst, arith, append_assoc}
use Rattle.std.specs.Prelude.{◌==◌, slice_index, is_some}
use Rattle.std.specs.Char.{is_ascii_digit, encode_utf8}
use Rattle.std.specs.Str.Parse.{digits_value}
use Rattle.std.proofs.lemmas.Bool.Decides.{nat_tests}
use Rattle.std.proofs.lemmas.Str.{length-encode, len_utf8_bounds}
use Rattle.numerals.specs.Numeral.{numeral}
use Rattle.strfmt.specs.declared.types.Alignment.{Alignment}
use Rattle.strfmt.specs.declared.types.Alignment.TheVariants.{Left as AtLeft, Right as AtRight}
use Rattle.strfmt.specs.declared.types.Sign.{Sign}
use Rattle.strfmt.specs.declared.types.Sign.TheVariants.{Plus}
use Rattle.strfmt.specs.Grammar.Parts.{alignment_of, sign_of, IsMark, IsFlag, HasNoFill, IsFilled, number_of, IsNumber, IsPrecision as IsPrecisionPart, Parts, IsWritten}
use Rattle.translation.specs.declared.options.Letters.{Letters}
use Rattle.translation.specs.declared.options.Letters.TheVariants.{Unset as NoLetters, LowerHex, UpperHex, Octal}
use Rattle.translation.specs.declared.options.Side.{Side}
use Rattle.translation.specs.declared.options.Side.TheVariants.{Unset, Left, Right, RightOfZeros}
use Rattle.translation.specs.declared.target.Target.TheVariants.{Strfmt}
use Rattle.translation.specs.Inner.Options.{side_text, plus_text, width_text, precision_text, letters_text}
use Rattle.translation.proofs.Decimals.{Writes, first_digit}
use Rattle.translation.proofs.Body.{is_quiet, AllQuiet, IsWidth, IsPrecision, quiet_append, quiet_plus, quiet_width, quiet_precision, quiet_letters}

abbrev pub align_of : Side → Option Alignment
align_of Unset = None
align_of Left = Some AtLeft
align_of Right = Some AtRight
align_of RightOfZeros = Some AtRight

abbrev pub sign_by : Bool → Option Sign
sign_by true = Some Plus
sign_by false = None

-- what the parts of a field are
abbrev pub parts_of : Side → Bool → Option ℕ → Option ℕ → Letters → Parts
parts_of side plus w q letters = record { fill = None; align = align_of side; sign = sign_by plus; alternate = false; zero = false; width = w; thousands = false; dot = is_some q; precision = q; left = letters_text Strfmt letters }

abbrev after_width : Option ℕ → Letters → List ℕ
after_width q letters = precision_text q ++ letters_text Strfmt letters

abbrev after_plus : Option ℕ → Option ℕ → Letters → List ℕ
after_plus w q letters = width_text w ++ after_width q letters

abbrev after_side : Bool → Option ℕ → Option ℕ → Letters → List ℕ
after_side plus w q letters = plus_text plus ++ after_plus w q letters

abbrev pub strfmt_text : Side → Bool → Option ℕ → Option ℕ → Letters → List ℕ
strfmt_text side plus w q letters = side_text side ++ after_side plus w q letters

-- the text is empty, or begins with a byte of options
abbrev Head : List ℕ → Type 0
Head t = (is_quiet (slice_index t 0) ≡ true) ⊎ (slice_index t 0 ≡ 0)

head_of : (t : List ℕ) → AllQuiet t → Head t
head_of [] h = inr refl
head_of (b ∷ t) h = inl h.0

head_not : (t : List ℕ) (x : ℕ) → Head t → is_quiet x ≡ false → x ≢ 0 → slice_index t 0 ≢ x
head_not t x (inl q) no_x some = λ e. let bad : is_quiet x ≡ true = subst (λ (b : ℕ). is_quiet b ≡ true) e q in absurd (apart (sym no_x ∙ bad))
  where
    apart : false ≡ true → ⊥
    apart e = absurd cc
head_not t x (inr z) no_x some = λ e. some (sym e ∙ z)

not_eq : (a b : ℕ) → a ≢ b → (a == b) ≡ false
not_eq a b h = grind (arith, nat_tests)

no_align : (t : List ℕ) → Head t → alignment_of (slice_index t 0) ≡ None
no_align t h =
    let a = not_eq (slice_index t 0) 60 (head_not t 60 h refl (λ e. absurd (omega arith))) in
    let b = not_eq (slice_index t 0) 94 (head_not t 94 h refl (λ e. absurd (omega arith))) in
    let c = not_eq (slice_index t 0) 62 (head_not t 62 h refl (λ e. absurd (omega arith))) in
    let d = not_eq (slice_index t 0) 61 (head_not t 61 h refl (λ e. absurd (omega arith))) in
    rw (a, b, c, d) refl

-- behind a first character there is no side
quiet_drop : (k : ℕ) (t : List ℕ) → AllQuiet t → AllQuiet (drop k t)
quiet_drop zero t h = h
quiet_drop (suc k) [] h = tt
quiet_drop (suc k) (x ∷ t) h = quiet_drop k t h.1

drop-seam : (xs rest : List ℕ) → drop (length xs) (xs ++ rest) ≡ rest
drop-seam [] rest = refl
drop-seam (x ∷ xs) rest = drop-seam xs rest

rest_of : (b : ℕ) (t after : List ℕ) (c : ℕ) → b ∷ t ≡ encode_utf8 c ++ after → (k : ℕ) × (after ≡ drop k t)
rest_of b t after c e =
    let long : 1 ≤ length (encode_utf8 c) = omega (arith, length-encode c, (len_utf8_bounds c).0) in
    by_length (length (encode_utf8 c)) refl long
  where
    by_length : (n : ℕ) → length (encode_utf8 c) ≡ n → 1 ≤ n → (k : ℕ) × (after ≡ drop k t)
    by_length zero l some = absurd (omega arith)
    by_length (suc k) l some = (k, sym (ap (drop (suc k)) e ∙ ap (λ (n : ℕ). drop n (encode_utf8 c ++ after)) (sym l) ∙ drop-seam (encode_utf8 c) after))

no_fill : (b : ℕ) (t : List ℕ) → AllQuiet t → HasNoFill (b ∷ t)
no_fill b t h = λ c after e. let r = rest_of b t after c e in rw r.1 (no_align (drop r.0 t) (head_of (drop r.0 t) (quiet_drop r.0 t h)))

no_fill_empty : HasNoFill []
no_fill_empty = λ c after e. absurd (empty c after (ap length e))
  where
    empty : (c : ℕ) (after : List ℕ) → 0 ≡ length (encode_utf8 c ++ after) → ⊥
    empty c after e = absurd (omega (arith, e, Rattle.std.proofs.Common.length-append (encode_utf8 c) after, length-encode c, (len_utf8_bounds c).0))

no_fill_of : (t : List ℕ) → AllQuiet t → HasNoFill t
no_fill_of [] h = no_fill_empty
no_fill_of (b ∷ t) h = no_fill b t h.1

filled : (side : Side) (t : List ℕ) → side ≢ RightOfZeros → AllQuiet t → IsFilled (side_text side ++ t) None (align_of side) t
filled Unset t s h = (no_fill_of t h, (no_align t (head_of t h), refl))
filled Left t s h = (no_fill 60 t h, (60, refl, refl))
filled Right t s h = (no_fill 62 t h, (62, refl, refl))
filled RightOfZeros t s h = absurd (s refl)

-- the sign
no_sign : (t : List ℕ) → slice_index t 0 ≢ 43 → Head t → sign_of (slice_index t 0) ≡ None
no_sign t plus h =
    let a = not_eq (slice_index t 0) 32 (head_not t 32 h refl (λ e. absurd (omega arith))) in
    let b = not_eq (slice_index t 0) 45 (head_not t 45 h refl (λ e. absurd (omega arith))) in
    let c = not_eq (slice_index t 0) 43 plus in
    rw (a, b, c) refl

first_at : (n : ℕ) (ds t : List ℕ) → (w : Writes n ds) → slice_index (ds ++ t) 0 ≡ w.first
first_at n ds t w = rw w.is refl

digit_not : (d x : ℕ) → is_ascii_digit d ≡ true → is_ascii_digit x ≡ false → d ≢ x
digit_not d x h k = λ e. let bad : is_ascii_digit x ≡ true = subst (λ (b : ℕ). is_ascii_digit b ≡ true) e h in absurd (apart (sym k ∙ bad))
  where
    apart : false ≡ true → ⊥
    apart e = absurd cc

no_plus : (w q : Option ℕ) (letters : Letters) → IsWidth w → slice_index (after_plus w q letters) 0 ≢ 43
no_plus None None NoLetters h = λ e. absurd (omega arith)
no_plus None None LowerHex h = λ e. absurd (omega arith)
no_plus None None UpperHex h = λ e. absurd (omega arith)
no_plus None None Octal h = λ e. absurd (omega arith)
no_plus None (Some q) letters h = λ e. absurd (omega arith)
no_plus (Some w) q letters h = λ e. digit_not h.1.first 43 (first_digit w (numeral 10 false w) h.1) refl (sym (first_at w (numeral 10 false w) (after_width q letters) h.1) ∙ e)

no_zero : (w q : Option ℕ) (letters : Letters) → IsWidth w → slice_index (after_plus w q letters) 0 ≢ 48
no_zero None None NoLetters h = λ e. absurd (omega arith)
no_zero None None LowerHex h = λ e. absurd (omega arith)
no_zero None None UpperHex h = λ e. absurd (omega arith)
no_zero None None Octal h = λ e. absurd (omega arith)
no_zero None (Some q) letters h = λ e. absurd (omega arith)
no_zero (Some w) q letters h = λ e. h.1.leads h.0 (sym (first_at w (numeral 10 false w) (after_width q letters) h.1) ∙ e)

signed : (plus : Bool) (w q : Option ℕ) (letters : Letters) → IsWidth w → AllQuiet (after_plus w q letters) → IsMark sign_of (after_side plus w q letters) (sign_by plus) (after_plus w q letters)
signed true w q letters h quiet = (43, refl, refl)
signed false w q letters h quiet = (no_sign (after_plus w q letters) (no_plus w q letters h) (head_of (after_plus w q letters) quiet), refl)

-- the numbers
number_is : (n : ℕ) (ds : List ℕ) → Writes n ds → Some n ≡ number_of ds
number_is n ds w = let v : digits_value 10 (w.first ∷ w.others) ≡ n = rw w.is at w.value in rw w.is (ap (λ (x : ℕ). Some x) (sym v))

width_part : (w q : Option ℕ) (letters : Letters) → IsWidth w → is_ascii_digit (slice_index (after_width q letters) 0) ≡ false → IsNumber (after_plus w q letters) w (after_width q letters)
width_part None q letters h stop = ([], refl, stop, refl, refl)
width_part (Some w) q letters h stop = (numeral 10 false w, h.1.digits, stop, number_is w (numeral 10 false w) h.1, refl)

letters_stop : (letters : Letters) → is_ascii_digit (slice_index (letters_text Strfmt letters) 0) ≡ false
letters_stop NoLetters = refl
letters_stop LowerHex = refl
letters_stop UpperHex = refl
letters_stop Octal = refl

width_stop : (q : Option ℕ) (letters : Letters) → is_ascii_digit (slice_index (after_width q letters) 0) ≡ false
width_stop None letters = letters_stop letters
width_stop (Some q) letters = refl

no_dot : (letters : Letters) → slice_index (letters_text Strfmt letters) 0 ≢ 46
no_dot NoLetters = λ e. absurd (omega arith)
no_dot LowerHex = λ e. absurd (omega arith)
no_dot UpperHex = λ e. absurd (omega arith)
no_dot Octal = λ e. absurd (omega arith)

abbrev behind_dot : Option ℕ → Letters → List ℕ
behind_dot None letters = letters_text Strfmt letters
behind_dot (Some q) letters = numeral 10 false q ++ letters_text Strfmt letters

dot_part : (q : Option ℕ) (letters : Letters) → IsFlag 46 (after_width q letters) (is_some q) (behind_dot q letters)
dot_part None letters = (no_dot letters, refl)
dot_part (Some q) letters = refl

precision_part : (q : Option ℕ) (letters : Letters) → IsPrecision q → IsPrecisionPart (is_some q) (behind_dot q letters) q (letters_text Strfmt letters)
precision_part None letters h = (refl, refl)
precision_part (Some q) letters h = (numeral 10 false q, h.digits, letters_stop letters, number_is q (numeral 10 false q) h, refl)

-- the options are written so
pub is_written : (side : Side) (plus : Bool) (w q : Option ℕ) (letters : Letters) → side ≢ RightOfZeros → IsWidth w → IsPrecision q → IsWritten (strfmt_text side plus w q letters) (parts_of side plus w q letters)
is_written side plus w q letters s width precision =
    let quiet3 : AllQuiet (after_width q letters) = quiet_append (precision_text q) _ (quiet_precision q precision) (quiet_letters Strfmt letters) in
    let quiet2 : AllQuiet (after_plus w q letters) = quiet_append (width_text w) _ (quiet_width w width) quiet3 in
    let quiet1 : AllQuiet (after_side plus w q letters) = quiet_append (plus_text plus) _ (quiet_plus plus) quiet2 in
    let head2 = head_of (after_plus w q letters) quiet2 in
    let head3 = head_of (after_width q letters) quiet3 in (
      after_side plus w q letters,
      after_plus w q letters,
      after_plus w q letters,
      after_plus w q letters,
      after_width q letters,
      after_width q letters,
      behind_dot q letters,
      filled side (after_side plus w q letters) s quiet1,
      signed plus w q letters width quiet2,
      (head_not (after_plus w q letters) 35 head2 refl (λ e. absurd (omega arith)), refl),
      (no_zero w q letters width, refl),
      width_part w q letters width (width_stop q letters),
      (head_not (after_width q letters) 44 head3 refl (λ e. absurd (omega arith)), refl),
      dot_part q letters,
      precision_part q letters precision,
    )
