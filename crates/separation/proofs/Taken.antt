-- What the table says that a field takes, it takes for some values.
use Rattle.std.proofs.Common.{eqb, cond, ◌≡◌, ◌≢◌, ◌⊎◌, ◌&&◌, ◌||◌, ◌<◌, ◌≤◌, ◌-◌, ◌^◌, ℕ, zero, suc, ℤ, pos, negsuc, Bool, true, false, List, [], ◌∷◌, ◌++◌, length, replicate, Some, None, FitsSigned, sym, ap, subst, refl, inl, inr, ◌∙◌, arith, encode_utf8, nat_le, nat_lt, unsigned_abs}
use Rattle.std.specs.Char.{digit_value, IsScalar}
use Rattle.std.specs.Str.{chars}
use Rattle.std.proofs.lemmas.Bool.{cases_Bool, eqb-false, ltb-false, leb-true, and_parts, and_cases, or_parts, or_cases}
use Rattle.std.proofs.lemmas.Bool.Decides.{nat_tests}
use Rattle.std.proofs.lemmas.List.{length-replicate}
use Rattle.std.proofs.lemmas.Str.{length-encode, encode_ascii}
use lib.Utf8.{low_scalar}
use mir.Val.{bits, hbits}
use Rattle.numerals.specs.Numeral.{numeral}
use Rattle.sprintf.specs.declared.parser.ConversionSpecifier.{ConversionSpecifier}
use Rattle.sprintf.specs.declared.parser.ConversionType.{ConversionType}
use Rattle.sprintf.specs.declared.parser.ConversionType.TheVariants.{DecInt, OctInt, HexIntLower, HexIntUpper, Char as CharConversion, String}
use Rattle.sprintf.specs.declared.parser.NumericParam.TheVariants.{FromArgument}
use Rattle.sprintf.specs.Field.{prefix_of, digits_of, sign_of}
use Rattle.scan_fmt.specs.Grammar.{first, is_blank, Until}
use Rattle.scan_fmt.specs.Scanned.{Suits}
use Rattle.values.specs.declared.kind.Kind.{Kind}
use Rattle.values.specs.declared.kind.Kind.TheVariants.{Word, Char}
use Rattle.values.specs.Datum.{Datum, word, character, IsOfKind}
use Rattle.row_format.specs.Columns.{Column, field_text, columns_text, width_of}
use Rattle.row_format.specs.Fit.{stop, Takes, IsFit}
use Rattle.row_format.specs.Plannable.{IsPaired, IsUnpaired, Never, is_number, greatest_length}
use Rattle.separation.specs.declared.table.Opening.TheVariants.{Space, Sign, Wide, Digit, Any}
use Rattle.separation.specs.Inner.Table.{is_signed_decimal, field_opening, number_opening, character_opening, is_text, is_opening_taken}
use Rattle.separation.specs.Inner.Touching.{TakesSome, IsWhole, IsFollowed}
use Rattle.separation.proofs.Sorts.{IsDigits, converts_digits, width_of_kind, number_form, number_field, room_of, prefix, bit_texts, decimal_texts, decimal_is}
use Rattle.separation.proofs.Lengths.{HeadDigit, bits_long, decimal_least, decimal_greatest, digits_decimal, signed_long}
use Rattle.separation.proofs.Texts.{first_ascii, first_char}
use Rattle.separation.proofs.Words.{word_form, precision_is, converts_word, converts_character, word_is, character_is, other_than, other_by, other_suits, word_fits, character_fits, number_fits, all_plain}
use Rattle.separation.proofs.Ends.{times, times_is}
use Rattle.separation.proofs.Clear.{stop_none, behind_none}

-- the text begins with a character that the conversion takes where no character stops it
abbrev pub IsTaken : ConversionType → List ℕ → Type 0
IsTaken v text = (c : ℕ) × (first (chars text) ≡ Some c) × Takes v None c

-- the text has an ASCII character in front, which the conversion takes
abbrev HeadTaken : ConversionType → List ℕ → Type 0
HeadTaken v [] = ⊥
HeadTaken v (c ∷ cs) = (c < 128) × Takes v None c

head_front : (v : ConversionType) (xs ys : List ℕ) → HeadTaken v xs → HeadTaken v (xs ++ ys)
head_front v [] ys h = absurd h
head_front v (x ∷ xs) ys h = h

head_taken : (v : ConversionType) (text rest : List ℕ) → HeadTaken v text → IsTaken v (text ++ rest)
head_taken v [] rest h = absurd h
head_taken v (c ∷ cs) rest h = (c, first_ascii c (cs ++ rest) h.0, h.1)

-- every field takes a digit where no character stops it
digit_ascii : (c : ℕ) → digit_value c < 10 → c < 128
digit_ascii c h = grind (arith, nat_tests)

digit_solid : (c : ℕ) → digit_value c < 10 → is_blank c ≡ false
digit_solid c h = grind (arith, nat_tests)

digit_taken : (v : ConversionType) (c : ℕ) → TakesSome v → digit_value c < 10 → Takes v None c
digit_taken DecInt c some h = h
digit_taken OctInt c some h = h
digit_taken HexIntLower c some h = inl (omega (arith, h))
digit_taken HexIntUpper c some h = inl (omega (arith, h))
digit_taken String c some h = (digit_solid c h, λ e. cc)
digit_taken CharConversion c some h = (digit_solid c h, λ e. cc)
digit_taken _ c some h = absurd some

digit_head : (v : ConversionType) (text : List ℕ) → TakesSome v → HeadDigit text → HeadTaken v text
digit_head v [] some h = h
digit_head v (c ∷ cs) some h = (digit_ascii c h, digit_taken v c some h)

-- a text takes all but white space where no character stops it
text_takes : (v : ConversionType) (c : ℕ) → is_text v ≡ true → is_blank c ≡ false → Takes v None c
text_takes String c h solid = (solid, λ e. cc)
text_takes CharConversion c h solid = (solid, λ e. cc)
text_takes _ c h solid = absurd (let bad : false ≡ true = h in cc)

-- ---- numbers

-- a lead keeps a digit in front of it
abbrev IsQuiet : List ℕ → Type 0
IsQuiet lead = (text : List ℕ) → HeadDigit text → HeadDigit (lead ++ text)

prefix_quiet : (v : ConversionType) (alt : Bool) → IsQuiet (cond alt (prefix_of v) [])
prefix_quiet v false text h = h
prefix_quiet OctInt true text h = omega arith
prefix_quiet HexIntLower true text h = omega arith
prefix_quiet HexIntUpper true text h = omega arith
prefix_quiet _ true text h = h

head_zeros : (n : ℕ) (text : List ℕ) → HeadDigit text → HeadDigit (replicate n 48 ++ text)
head_zeros zero text h = h
head_zeros (suc n) text h = omega arith

digit_front : (xs ys : List ℕ) → HeadDigit xs → HeadDigit (xs ++ ys)
digit_front [] ys h = absurd h
digit_front (x ∷ xs) ys h = h

-- with no spaces in front
abbrev IsFlush : Bool → Bool → ℕ → Type 0
IsFlush left zero_pad room = left ≡ false → zero_pad ≡ false → room ≡ 0

flush_by : (room : ℕ) (text : List ℕ) → room ≡ 0 → replicate room 32 ++ text ≡ text
flush_by room text none = ap (λ n. replicate n 32 ++ text) none

form_digit : (left zero_pad : Bool) (room : ℕ) (lead digits : List ℕ) → IsQuiet lead → HeadDigit digits → IsFlush left zero_pad room → HeadDigit (number_form left zero_pad room lead digits)
form_digit true zero_pad room lead digits quiet h flush = quiet (digits ++ replicate room 32) (digit_front digits (replicate room 32) h)
form_digit false true room lead digits quiet h flush = quiet (replicate room 48 ++ digits) (head_zeros room digits h)
form_digit false false room lead digits quiet h flush = subst HeadDigit (sym (flush_by room (lead ++ digits) (flush refl refl))) (quiet digits h)

form_lead : (v : ConversionType) (left zero_pad : Bool) (room : ℕ) (lead digits : List ℕ) → HeadTaken v lead → IsFlush left zero_pad room → HeadTaken v (number_form left zero_pad room lead digits)
form_lead v true zero_pad room lead digits h flush = head_front v lead (digits ++ replicate room 32) h
form_lead v false true room lead digits h flush = head_front v lead (replicate room 48 ++ digits) h
form_lead v false false room lead digits h flush = subst (HeadTaken v) (sym (flush_by room (lead ++ digits) (flush refl refl))) (head_front v lead digits h)

flush_sides : (left zero_pad : Bool) (room : ℕ) → (left || zero_pad) ≡ true → IsFlush left zero_pad room
flush_sides left zero_pad room some l z = absurd (let bad : true ≡ false = sym some ∙ ap (λ b. b || zero_pad) l ∙ z in cc)

zero_head : (v : ConversionType) → HeadDigit (digits_of v 0)
unfolding numeral
zero_head OctInt = omega arith
zero_head HexIntLower = omega arith
zero_head HexIntUpper = omega arith
zero_head _ = omega arith

-- of the openings of a number, those that a conversion takes, by the values that show it
data Shows (v : ConversionType) (a b c d : Bool) : Type 0 where
  by_zero : a ≡ true → d ≡ false → Shows v a b c d
  by_mark : a ≡ true → d ≡ true → is_text v ≡ true → Shows v a b c d
  by_least : b ≡ false → (c ≡ true) ⊎ (d ≡ true) → is_text v ≡ true → Shows v a b c d
  by_long : b ≡ false → c ≡ false → d ≡ false → Shows v a b c d

shows : (v : ConversionType) (a b c d : Bool) → is_opening_taken v (cond a (cond d Sign Digit) (cond b Space (cond c Sign (cond d Sign Digit)))) ≡ true → Shows v a b c d
shows v true b c false h = by_zero refl refl
shows v true b c true h = by_mark refl refl h
shows v false true c d h = absurd (let bad : false ≡ true = h in cc)
shows v false false true d h = by_least refl (inl refl) h
shows v false false false true h = by_least refl (inr refl) h
shows v false false false false h = by_long refl refl refl

-- a value of the kind whose text begins with what the conversion takes
abbrev pub Opens : ConversionType → ConversionSpecifier → Kind → Type 0
Opens v f kind = (x : Datum) × IsOfKind kind x × HeadTaken v (field_text f kind x)

no_flags : (force space : Bool) → (force || space) ≡ false → cond {A = List ℕ} force (43 ∷ []) (cond space (32 ∷ []) []) ≡ []
no_flags true space h = absurd (let bad : true ≡ false = h in cc)
no_flags false true h = absurd (let bad : true ≡ false = h in cc)
no_flags false false h = refl

module _ (v : ConversionType) (some : TakesSome v) (f : ConversionSpecifier) (kind : Kind) (number : is_number kind ≡ true) (digits : IsDigits f.conversion_type) (given : f.width ≢ FromArgument) where
  -- a number of another kind than signed decimals
  bits_show : is_signed_decimal f.conversion_type kind ≡ false → (n : ℕ) → n < 2 ^ bits (width_of_kind kind) → HeadDigit (digits_of f.conversion_type n) → IsFlush f.left_adj f.zero_pad (room_of f (prefix f) n) → Opens v f kind
  bits_show other n small head flush =
      let it = (bit_texts f kind number digits given other).some n small in (
        it.0,
        it.1,
        subst (HeadTaken v) (sym it.2) (digit_head v (number_field f (prefix f) n) some
            (form_digit f.left_adj f.zero_pad (room_of f (prefix f) n) (prefix f) (digits_of f.conversion_type n) (prefix_quiet f.conversion_type f.alt_form) head flush)),
      )

  -- a signed decimal without a sign
  plain_show : is_signed_decimal f.conversion_type kind ≡ true → (n : ℕ) → FitsSigned (width_of_kind kind) (pos n) → (f.force_sign || f.space_sign) ≡ false → HeadDigit (digits_of f.conversion_type n)
      → IsFlush f.left_adj f.zero_pad (room_of f (sign_of f (pos n)) n) → Opens v f kind
  plain_show decimal n fits flags head flush =
      let it = (decimal_texts f kind number digits given decimal).some (pos n) fits in (
        it.0,
        it.1,
        subst (HeadTaken v) (sym it.2) (digit_head v (number_field f (sign_of f (pos n)) n) some
            (form_digit f.left_adj f.zero_pad (room_of f (sign_of f (pos n)) n) (sign_of f (pos n)) (digits_of f.conversion_type n)
            (λ text h. subst (λ (t : List ℕ). HeadDigit (t ++ text)) (sym (no_flags f.force_sign f.space_sign flags)) h) head flush)),
      )

  -- a signed decimal with a sign
  sign_show : is_signed_decimal f.conversion_type kind ≡ true → (z : ℤ) → FitsSigned (width_of_kind kind) z → HeadTaken v (sign_of f z) → IsFlush f.left_adj f.zero_pad (room_of f (sign_of f z) (unsigned_abs z)) → Opens v f kind
  sign_show decimal z fits head flush =
      let it = (decimal_texts f kind number digits given decimal).some z fits in
      (it.0, it.1, subst (HeadTaken v) (sym it.2) (form_lead v f.left_adj f.zero_pad (room_of f (sign_of f z) (unsigned_abs z)) (sign_of f z) (digits_of f.conversion_type (unsigned_abs z)) head flush))

  minus : is_text v ≡ true → HeadTaken v (45 ∷ [])
  minus h = (omega arith, text_takes v 45 h refl)

  mark_show : is_signed_decimal f.conversion_type kind ≡ true → (force : Bool) → f.force_sign ≡ force → is_text v ≡ true → (f.left_adj || f.zero_pad) ≡ true → Opens v f kind
  mark_show decimal true force h sides =
      sign_show decimal (pos 0) (record { sfits = (signed_long kind).0 })
      (subst (λ b. HeadTaken v (cond b (43 ∷ []) (cond f.space_sign (32 ∷ []) []))) (sym force) (omega arith, text_takes v 43 h refl))
      (flush_sides f.left_adj f.zero_pad (room_of f (sign_of f (pos 0)) 0) sides)
  mark_show decimal false force h sides =
      sign_show decimal (negsuc 0) (record { sfits = (signed_long kind).0 }) (minus h) (flush_sides f.left_adj f.zero_pad (room_of f (sign_of f (negsuc 0)) 1) sides)

  least_show : is_signed_decimal f.conversion_type kind ≡ true → is_text v ≡ true → width_of f ≤ greatest_length f kind → Opens v f kind
  least_show decimal h room =
      let least = decimal_least f kind decimal in
      sign_show decimal least.z least.fits (subst (HeadTaken v) (sym least.negative) (minus h)) (λ l z. omega (arith, least.full, room))

  zero_show : (f.left_adj || f.zero_pad) ≡ true → (is_signed_decimal f.conversion_type kind && (f.force_sign || f.space_sign)) ≡ false → Opens v f kind
  zero_show sides bare = elim (cases_Bool (is_signed_decimal f.conversion_type kind)) [
    | inl decimal ↦
        let flags : (f.force_sign || f.space_sign) ≡ false = sym (ap (λ b. b && (f.force_sign || f.space_sign)) decimal) ∙ bare in
        plain_show decimal 0 (record { sfits = (signed_long kind).0 }) flags (zero_head f.conversion_type) (flush_sides f.left_adj f.zero_pad (room_of f (sign_of f (pos 0)) 0) sides)
    | inr other ↦ bits_show other 0 (let long = bits_long f.conversion_type kind digits other in omega (arith, long.small)) (zero_head f.conversion_type) (flush_sides f.left_adj f.zero_pad (room_of f (prefix f) 0) sides)
  ]

  long_show : width_of f ≤ greatest_length f kind → (eqb (width_of f) (greatest_length f kind) && is_signed_decimal f.conversion_type kind) ≡ false → (is_signed_decimal f.conversion_type kind && (f.force_sign || f.space_sign)) ≡ false → Opens v f kind
  long_show room just bare = elim (cases_Bool (is_signed_decimal f.conversion_type kind)) [
    | inl decimal ↦
        let flags : (f.force_sign || f.space_sign) ≡ false = sym (ap (λ b. b && (f.force_sign || f.space_sign)) decimal) ∙ bare in
        let n = 2 ^ hbits (width_of_kind kind) - 1 in
        let long = signed_long kind in
        let same : digits_of f.conversion_type n ≡ numeral 10 false n = digits_decimal f.conversion_type n (decimal_is f.conversion_type kind decimal).0 in
        let apart : width_of f ≢ greatest_length f kind = elim (and_cases (eqb (width_of f) (greatest_length f kind)) (is_signed_decimal f.conversion_type kind) just) [
          | inl e ↦ eqb-false (width_of f) (greatest_length f kind) e
          | inr e ↦ absurd (let bad : true ≡ false = sym decimal ∙ e in cc)
        ] in
        plain_show decimal n (record { sfits = omega (arith, long.0) }) flags (subst HeadDigit (sym same) long.2)
        (λ l z. omega (arith, ap length same, long.1, decimal_greatest f kind decimal, room, apart))
    | inr other ↦
        let long = bits_long f.conversion_type kind digits other in
        bits_show other long.n long.small long.head (λ l z. omega (arith, long.full, room))
  ]

  decimal_by : ((eqb (width_of f) (greatest_length f kind) && is_signed_decimal f.conversion_type kind) ≡ true) ⊎ ((is_signed_decimal f.conversion_type kind && (f.force_sign || f.space_sign)) ≡ true) → is_signed_decimal f.conversion_type kind ≡ true
  decimal_by (inl h) = (and_parts (eqb (width_of f) (greatest_length f kind)) (is_signed_decimal f.conversion_type kind) h).1
  decimal_by (inr h) = (and_parts (is_signed_decimal f.conversion_type kind) (f.force_sign || f.space_sign) h).0

  pub number_opens : is_opening_taken v (number_opening f kind) ≡ true → Opens v f kind
  number_opens h = elim (shows v (f.left_adj || f.zero_pad) (nat_lt (greatest_length f kind) (width_of f)) (eqb (width_of f) (greatest_length f kind) && is_signed_decimal f.conversion_type kind) (is_signed_decimal f.conversion_type kind && (f.force_sign || f.space_sign)) h) [
    | by_zero sides bare ↦ zero_show sides bare
    | by_mark sides flags text ↦ mark_show (decimal_by (inr flags)) f.force_sign refl text sides
    | by_least room some text ↦ least_show (decimal_by some) text (ltb-false (greatest_length f kind) (width_of f) room)
    | by_long room just bare ↦ long_show (ltb-false (greatest_length f kind) (width_of f) room) just bare
  ]

-- ---- words and characters

-- a digit that fits
abbrev digit_for : Column → ℕ
digit_for c = other_than 49 50 (stop c)

digit_suits : (c : Column) → Suits (Until (stop c)) (digit_for c)
digit_suits c = other_suits 49 50 (stop c) refl refl (λ e. omega arith)

digit_low : (c : Column) → digit_for c < 128
digit_low c = other_by (λ x. x < 128) 49 50 (stop c) (omega arith) (omega arith)

digit_is : (c : Column) → digit_value (digit_for c) < 10
digit_is c = other_by (λ x. digit_value x < 10) 49 50 (stop c) (omega arith) (omega arith)

word_flush : (left : Bool) (room : ℕ) (text : List ℕ) → HeadDigit text → (left ≡ false → room ≡ 0) → HeadDigit (word_form left room text)
word_flush true room text h flush = digit_front text (replicate room 32) h
word_flush false room text h flush = subst HeadDigit (sym (flush_by room text (flush refl))) h

same_head : (n c : ℕ) → 0 < n → digit_value c < 10 → HeadDigit (replicate n c)
same_head zero c some h = absurd (omega arith)
same_head (suc n) c some h = h

-- a value that fits, and behind whose text may stand anything
abbrev pub OpensFit : ConversionType → Column → Kind → Type 0
OpensFit v c kind = (x : Datum) × IsFit c kind x × ((rest : List ℕ) → IsTaken v (field_text c.field kind x ++ rest))

word_opens : (v : ConversionType) (c : Column) → TakesSome v → IsPaired c Word → IsWhole c Word → width_of c.field ≤ 2147483647 → OpensFit v c Word
word_opens v c some paired whole narrow =
    let n = times (width_of c.field) in
    let t = times_is (width_of c.field) narrow in
    let digit = digit_for c in
    let text : field_text c.field Word (word (replicate n digit)) ≡ word_form c.field.left_adj (width_of c.field - length (replicate n digit)) (replicate n digit) =
    word_is c.field (replicate n digit) (converts_word c.field.conversion_type paired.0) (precision_is c.field.precision (λ p. whole (refl, p))) paired.1 (omega (arith, length-replicate {A = ℕ} n digit, t.2)) in
    let head : HeadTaken v (field_text c.field Word (word (replicate n digit))) = subst (HeadTaken v) (sym text) (digit_head v (word_form c.field.left_adj (width_of c.field - length (replicate n digit)) (replicate n digit)) some
    (word_flush c.field.left_adj (width_of c.field - length (replicate n digit)) (replicate n digit) (same_head n digit t.1 (digit_is c)) (λ front. omega (arith, length-replicate {A = ℕ} n digit, t.0)))) in
    (word (replicate n digit), word_fits c n digit t.1 t.2 (digit_low c) (digit_suits c), λ rest. head_taken v (field_text c.field Word (word (replicate n digit))) rest head)

-- of the openings of a character, those that a conversion takes
character_shows : (v : ConversionType) (a b : Bool) → is_opening_taken v (cond a Any (cond b Wide Space)) ≡ true → (a ≡ true) ⊎ ((a ≡ false) × (b ≡ true) × (is_text v ≡ true))
character_shows v true b h = inl refl
character_shows v false true h = inr (refl, refl, h)
character_shows v false false h = absurd (let bad : false ≡ true = h in cc)

short_opens : (v : ConversionType) (c : Column) → TakesSome v → IsPaired c Char → (c.field.left_adj || nat_le (width_of c.field) 1) ≡ true → OpensFit v c Char
short_opens v c some paired short =
    let digit = digit_for c in
    let one : encode_utf8 digit ≡ digit ∷ [] = encode_ascii digit (digit_low c) in
    let room = width_of c.field - length (encode_utf8 digit) in
    let text : field_text c.field Char (character digit) ≡ word_form c.field.left_adj room (encode_utf8 digit) = character_is c.field digit (converts_character c.field.conversion_type paired.0) paired.1 in
    let flush : c.field.left_adj ≡ false → room ≡ 0 = λ front. elim (or_cases c.field.left_adj (nat_le (width_of c.field) 1) short) [
      | inl left ↦ absurd (let bad : true ≡ false = sym left ∙ front in cc)
      | inr low ↦ omega (arith, ap length one, leb-true (width_of c.field) 1 low)
    ] in
    let head : HeadTaken v (field_text c.field Char (character digit)) = subst (HeadTaken v) (sym text) (digit_head v (word_form c.field.left_adj room (encode_utf8 digit)) some
    (word_flush c.field.left_adj room (encode_utf8 digit) (subst HeadDigit (sym one) (digit_is c)) flush)) in
    (character digit, character_fits c digit (low_scalar digit (omega (arith, digit_low c))) (digit_suits c), λ rest. head_taken v (field_text c.field Char (character digit)) rest head)

front_form : (left : Bool) (room : ℕ) (text : List ℕ) → left ≡ false → room ≡ 0 → word_form left room text ≡ text
front_form true room text h none = absurd (let bad : true ≡ false = h in cc)
front_form false room text h none = flush_by room text none

wide_opens : (v : ConversionType) (c : Column) → is_text v ≡ true → IsPaired c Char → c.field.left_adj ≡ false → width_of c.field ≤ 4 → OpensFit v c Char
wide_opens v c h paired front low =
    let letter = other_than 65536 65537 (stop c) in
    let four : length (encode_utf8 letter) ≡ 4 = other_by (λ x. length (encode_utf8 x) ≡ 4) 65536 65537 (stop c) (length-encode 65536) (length-encode 65537) in
    let scalar : IsScalar letter = other_by IsScalar 65536 65537 (stop c) refl refl in
    let text : field_text c.field Char (character letter) ≡ encode_utf8 letter = character_is c.field letter (converts_character c.field.conversion_type paired.0) paired.1
    ∙ front_form c.field.left_adj (width_of c.field - length (encode_utf8 letter)) (encode_utf8 letter) front (omega (arith, four, low)) in (
      character letter,
      character_fits c letter scalar (other_suits 65536 65537 (stop c) refl refl (λ e. omega arith)),
      λ rest. subst (λ (t : List ℕ). IsTaken v (t ++ rest)) (sym text) (letter, first_char letter rest scalar, text_takes v letter h (other_by (λ x. is_blank x ≡ false) 65536 65537 (stop c) refl refl)),
    )

character_opens : (v : ConversionType) (c : Column) → TakesSome v → IsPaired c Char → is_opening_taken v (character_opening c.field) ≡ true → OpensFit v c Char
character_opens v c some paired h = elim (character_shows v (c.field.left_adj || nat_le (width_of c.field) 1) (nat_le (width_of c.field) 4) h) [
  | inl short ↦ short_opens v c some paired short
  | inr k ↦ let sides = or_parts c.field.left_adj (nat_le (width_of c.field) 1) k.0 in wide_opens v c k.2 paired sides.0 (leb-true (width_of c.field) 4 k.1)
]

-- ---- every field

number_fit : (v : ConversionType) (c : Column) (kind : Kind) → is_number kind ≡ true → Opens v c.field kind → OpensFit v c kind
number_fit v c kind number (x, is, head) = (x, number_fits c kind x number is, λ rest. head_taken v (field_text c.field kind x) rest head)

pub opening_taken : (v : ConversionType) (c : Column) (kind : Kind) → TakesSome v → IsPaired c kind → IsWhole c kind → width_of c.field ≤ 2147483647 → is_opening_taken v (field_opening c.field kind) ≡ true → OpensFit v c kind
opening_taken v c Word some paired whole narrow h = word_opens v c some paired whole narrow
opening_taken v c Char some paired whole narrow h = character_opens v c some paired h
opening_taken v c kind some paired whole narrow h = number_fit v c kind refl (number_opens v some c.field kind refl (converts_digits c.field.conversion_type kind refl paired.0) paired.1 h)

pub followed : (c next : Column) (cs : List Column) (kind : Kind) (kinds : List Kind) → c.after ≡ [] → TakesSome c.field.conversion_type → IsPaired next kind → IsWhole next kind → Never IsUnpaired cs kinds → width_of next.field ≤ 2147483647
    → is_opening_taken c.field.conversion_type (field_opening next.field kind) ≡ true → IsFollowed c (next ∷ cs) (kind ∷ kinds)
followed c next cs kind kinds none some paired whole never narrow h =
    let one = opening_taken c.field.conversion_type next kind some paired whole narrow h in
    let values = all_plain cs kinds never in
    let taken = one.2 (next.after ++ columns_text cs kinds values.0) in (
      one.0 ∷ values.0,
      (one.1, values.1),
      (
        taken.0,
        ap (λ (t : List ℕ). first (chars t)) (behind_none c (columns_text (next ∷ cs) (kind ∷ kinds) (one.0 ∷ values.0)) none) ∙ taken.1,
        subst (λ end. Takes c.field.conversion_type end taken.0) (sym (stop_none c none)) taken.2,
      ),
    )
