-- What the table says that a field doesn't take, it never takes.
use Rattle.std.proofs.Common.{eqb, cond, ◌≡◌, ◌≢◌, ◌⊎◌, ◌&&◌, ◌||◌, ◌<◌, ◌≤◌, ◌-◌, ℕ, zero, suc, ℤ, pos, negsuc, Bool, true, false, List, [], ◌∷◌, ◌++◌, length, replicate, Option, Some, None, FitsSigned, sym, ap, subst, refl, inl, inr, ◌∙◌, arith, encode_utf8, nat_le, nat_lt, unsigned_abs}
use Rattle.std.specs.Char.{digit_value, IsScalar, len_utf8}
use Rattle.std.specs.Str.{chars, IsUtf8}
use Rattle.std.proofs.lemmas.Bool.{cases_Bool, cases_lt, eqb-false, eqb-true, ltb-false, ltb-true, leb-false, and_parts, or_parts, or_cases}
use Rattle.std.proofs.lemmas.Bool.Decides.{nat_tests}
use Rattle.std.proofs.lemmas.Str.{length-encode, len_utf8_bounds, len_utf8_ascii}
use Rattle.sprintf.specs.declared.parser.ConversionSpecifier.{ConversionSpecifier}
use Rattle.sprintf.specs.declared.parser.ConversionType.{ConversionType}
use Rattle.sprintf.specs.declared.parser.ConversionType.TheVariants.{DecInt, OctInt, HexIntLower, HexIntUpper, Char as CharConversion, String}
use Rattle.sprintf.specs.declared.parser.NumericParam.TheVariants.{FromArgument}
use Rattle.sprintf.specs.Field.{digits_of, sign_of}
use Rattle.scan_fmt.specs.Grammar.{first}
use Rattle.values.specs.declared.kind.Kind.{Kind}
use Rattle.values.specs.declared.kind.Kind.TheVariants.{Word, Char}
use Rattle.values.specs.Datum.{Datum, natural, integer, word, character, IsOfKind}
use Rattle.row_format.specs.Columns.{Column, field_text, columns_text, width_of}
use Rattle.row_format.specs.Fit.{stop, Takes}
use Rattle.row_format.specs.Plannable.{IsPaired, IsUnpaired, Never, is_number, greatest_length}
use Rattle.separation.specs.declared.table.Opening.TheVariants.{Space, Sign, Wide, Digit, Any}
use Rattle.separation.specs.Inner.Table.{is_signed_decimal, field_opening, number_opening, character_opening, is_taken, is_text, is_opening_taken}
use Rattle.separation.specs.Inner.Touching.{IsFollowed}
use Rattle.separation.proofs.Sorts.{IsDigits, converts_digits, width_of_kind, number_form, number_field, room_of, decimal_texts}
use Rattle.separation.proofs.Lengths.{decimal_room}
use Rattle.separation.proofs.Texts.{first_ascii, first_char, first_of_text, first_none, same_some}
use Rattle.separation.proofs.Words.{word_form, converts_character, character_is, all_plain}
use Rattle.separation.proofs.Ends.{some_text}

-- the text begins with no character that the conversion takes where no character stops it
abbrev pub IsClear : ConversionType → List ℕ → Type 0
IsClear v text = (c : ℕ) → first (chars text) ≡ Some c → Takes v None c → ⊥

-- the text has an ASCII character in front, which the conversion doesn't take
abbrev HeadClear : ConversionType → List ℕ → Type 0
HeadClear v [] = ⊥
HeadClear v (c ∷ cs) = (c < 128) × (Takes v None c → ⊥)

head_front : (v : ConversionType) (xs ys : List ℕ) → HeadClear v xs → HeadClear v (xs ++ ys)
head_front v [] ys h = absurd h
head_front v (x ∷ xs) ys h = h

head_clear : (v : ConversionType) (text : List ℕ) → HeadClear v text → IsClear v text
head_clear v [] h c is t = h
head_clear v (d ∷ ds) h c is t = h.1 (subst (Takes v None) (same_some (sym is ∙ first_ascii d ds h.0)) t)

-- no field takes a space, and no number a sign
pub space_clear : (v : ConversionType) (end : Option ℕ) → Takes v end 32 → ⊥
space_clear DecInt end h = omega arith
space_clear OctInt end h = omega arith
space_clear HexIntLower end (inl h) = omega arith
space_clear HexIntLower end (inr h) = omega arith
space_clear HexIntUpper end (inl h) = omega arith
space_clear HexIntUpper end (inr h) = omega arith
space_clear String end h = let bad : true ≡ false = h.0 in cc
space_clear CharConversion end h = let bad : true ≡ false = h.0 in cc
space_clear _ end h = h

abbrev IsSign : ℕ → Type 0
IsSign c = (c ≡ 43) ⊎ (c ≡ 45)

decimal_sign : (c most : ℕ) → most ≤ 16 → IsSign c → digit_value c < most → ⊥
decimal_sign c most low (inl k) t = let bad : digit_value 43 < most = subst (λ x. digit_value x < most) k t in omega arith
decimal_sign c most low (inr k) t = let bad : digit_value 45 < most = subst (λ x. digit_value x < most) k t in omega arith

not_x : (c : ℕ) → IsSign c → c ≡ 120 → ⊥
not_x c (inl k) e = omega arith
not_x c (inr k) e = omega arith

sign_clear : (v : ConversionType) (c : ℕ) → is_text v ≡ false → IsSign c → Takes v None c → ⊥
sign_clear DecInt c h k t = decimal_sign c 10 (omega arith) k t
sign_clear OctInt c h k t = decimal_sign c 10 (omega arith) k t
sign_clear HexIntLower c h k (inl t) = decimal_sign c 16 (omega arith) k t
sign_clear HexIntLower c h k (inr t) = not_x c k t
sign_clear HexIntUpper c h k (inl t) = decimal_sign c 16 (omega arith) k t
sign_clear HexIntUpper c h k (inr t) = not_x c k t
sign_clear String c h k t = let bad : true ≡ false = h in cc
sign_clear CharConversion c h k t = let bad : true ≡ false = h in cc
sign_clear _ c h k t = t

-- no number takes a character that isn't ASCII
digit_low : (c : ℕ) → digit_value c < 16 → c < 128
digit_low c h = grind (arith, nat_tests)

takes_low : (v : ConversionType) (c : ℕ) → is_text v ≡ false → Takes v None c → c < 128
takes_low DecInt c h t = digit_low c (omega (arith, t))
takes_low OctInt c h t = digit_low c (omega (arith, t))
takes_low HexIntLower c h (inl t) = digit_low c t
takes_low HexIntLower c h (inr t) = omega (arith, t)
takes_low HexIntUpper c h (inl t) = digit_low c t
takes_low HexIntUpper c h (inr t) = omega (arith, t)
takes_low String c h t = absurd (let bad : true ≡ false = h in cc)
takes_low CharConversion c h t = absurd (let bad : true ≡ false = h in cc)
takes_low _ c h t = absurd t

spaces_head : (v : ConversionType) (n : ℕ) (text : List ℕ) → 0 < n → HeadClear v (replicate n 32 ++ text)
spaces_head v zero text some = absurd (omega arith)
spaces_head v (suc n) text some = (omega arith, space_clear v None)

room_head : (v : ConversionType) (n : ℕ) (text : List ℕ) → HeadClear v text → HeadClear v (replicate n 32 ++ text)
room_head v zero text h = h
room_head v (suc n) text h = (omega arith, space_clear v None)

-- a number's text begins with its lead, or with a space
form_head : (v : ConversionType) (left zero_pad : Bool) (room : ℕ) (lead digits : List ℕ) → HeadClear v lead ⊎ ((left ≡ false) × (zero_pad ≡ false) × (0 < room)) → HeadClear v (number_form left zero_pad room lead digits)
form_head v true zero_pad room lead digits (inl h) = head_front v lead (digits ++ replicate room 32) h
form_head v false true room lead digits (inl h) = head_front v lead (replicate room 48 ++ digits) h
form_head v false false room lead digits (inl h) = room_head v room (lead ++ digits) (head_front v lead digits h)
form_head v false false room lead digits (inr h) = spaces_head v room (lead ++ digits) h.2
form_head v true zero_pad room lead digits (inr h) = absurd (let bad : true ≡ false = h.0 in cc)
form_head v false true room lead digits (inr h) = absurd (let bad : true ≡ false = h.1 in cc)

-- ---- signed decimals

marks : (v : ConversionType) (force space : Bool) → is_text v ≡ false → (force || space) ≡ true → HeadClear v (cond force (43 ∷ []) (cond space (32 ∷ []) []))
marks v true space h flags = (omega arith, sign_clear v 43 h (inl refl))
marks v false true h flags = (omega arith, space_clear v None)
marks v false false h flags = absurd (let bad : false ≡ true = flags in cc)

sign_head : (v : ConversionType) (f : ConversionSpecifier) (z : ℤ) → is_text v ≡ false → (f.force_sign || f.space_sign) ≡ true → HeadClear v (sign_of f z)
sign_head v f (negsuc n) h flags = (omega arith, sign_clear v 45 h (inr refl))
sign_head v f (pos n) h flags = marks v f.force_sign f.space_sign h flags

no_flags : (force space : Bool) → (force || space) ≡ false → length {A = ℕ} (cond force (43 ∷ []) (cond space (32 ∷ []) [])) ≡ 0
no_flags true space h = absurd (let bad : true ≡ false = h in cc)
no_flags false true h = absurd (let bad : true ≡ false = h in cc)
no_flags false false h = refl

-- at just its greatest length: a sign, or room
just_head : (v : ConversionType) (f : ConversionSpecifier) (kind : Kind) (z : ℤ) → is_text v ≡ false → is_signed_decimal f.conversion_type kind ≡ true → FitsSigned (width_of_kind kind) z → width_of f ≡ greatest_length f kind
    → HeadClear v (sign_of f z) ⊎ (0 < room_of f (sign_of f z) (unsigned_abs z))
just_head v f kind (negsuc n) h decimal fits same = inl (omega arith, sign_clear v 45 h (inr refl))
just_head v f kind (pos n) h decimal fits same = elim (cases_Bool (f.force_sign || f.space_sign)) [
  | inl flags ↦ inl (sign_head v f (pos n) h flags)
  | inr flags ↦ inr (omega (arith, same, no_flags f.force_sign f.space_sign flags, decimal_room f kind n decimal fits))
]

-- ---- the opening of a number

-- of the openings of a number, those that a conversion doesn't take: a sign under a flag, a space, and what has just its greatest length
open_cases : (v : ConversionType) (a b c d : Bool) → is_opening_taken v (cond a (cond d Sign Digit) (cond b Space (cond c Sign (cond d Sign Digit)))) ≡ false
    → ((d ≡ true) × (is_text v ≡ false)) ⊎ (((a ≡ false) × (b ≡ true)) ⊎ ((a ≡ false) × (c ≡ true) × (is_text v ≡ false)))
open_cases v true b c true h = inl (refl, h)
open_cases v true b c false h = absurd (let bad : true ≡ false = h in cc)
open_cases v false true c d h = inr (inl (refl, refl))
open_cases v false false true d h = inr (inr (refl, refl, h))
open_cases v false false false true h = inl (refl, h)
open_cases v false false false false h = absurd (let bad : true ≡ false = h in cc)

module _ (v : ConversionType) (f : ConversionSpecifier) (kind : Kind) (number : is_number kind ≡ true) (digits : IsDigits f.conversion_type) (given : f.width ≢ FromArgument) (x : Datum) (is : IsOfKind kind x) where
  by_text : (lead : List ℕ) (n : ℕ) → field_text f kind x ≡ number_field f lead n → HeadClear v lead ⊎ ((f.left_adj ≡ false) × (f.zero_pad ≡ false) × (0 < room_of f lead n)) → HeadClear v (field_text f kind x)
  by_text lead n text h = subst (HeadClear v) (sym text) (form_head v f.left_adj f.zero_pad (room_of f lead n) lead (digits_of f.conversion_type n) h)

  flags_clear : is_signed_decimal f.conversion_type kind ≡ true → (f.force_sign || f.space_sign) ≡ true → is_text v ≡ false → HeadClear v (field_text f kind x)
  flags_clear decimal flags h =
      let it = (decimal_texts f kind number digits given decimal).each x is in
      by_text (sign_of f it.0) (unsigned_abs it.0) it.2 (inl (sign_head v f it.0 h flags))

  wide_clear : f.left_adj ≡ false → f.zero_pad ≡ false → greatest_length f kind < width_of f → HeadClear v (field_text f kind x)
  wide_clear front plain room =
      let it = some_text f kind number digits given x is in
      by_text it.lead it.n it.text (inr (front, plain, omega (arith, it.most, room)))

  just_clear : f.left_adj ≡ false → f.zero_pad ≡ false → width_of f ≡ greatest_length f kind → is_signed_decimal f.conversion_type kind ≡ true → is_text v ≡ false → HeadClear v (field_text f kind x)
  just_clear front plain same decimal h =
      let it = (decimal_texts f kind number digits given decimal).each x is in
      by_text (sign_of f it.0) (unsigned_abs it.0) it.2 (elim (just_head v f kind it.0 h decimal it.1 same) [ inl k ↦ inl k | inr k ↦ inr (front, plain, k) ])

  pub number_clear : is_opening_taken v (number_opening f kind) ≡ false → HeadClear v (field_text f kind x)
  number_clear h = elim (open_cases v (f.left_adj || f.zero_pad) (nat_lt (greatest_length f kind) (width_of f)) (eqb (width_of f) (greatest_length f kind) && is_signed_decimal f.conversion_type kind) (is_signed_decimal f.conversion_type kind && (f.force_sign || f.space_sign)) h) [
    | inl k ↦ let both = and_parts (is_signed_decimal f.conversion_type kind) (f.force_sign || f.space_sign) k.0 in flags_clear both.0 both.1 k.1
    | inr (inl k) ↦ let sides = or_parts f.left_adj f.zero_pad k.0 in wide_clear sides.0 sides.1 (ltb-true (greatest_length f kind) (width_of f) k.1)
    | inr (inr k) ↦
        let sides = or_parts f.left_adj f.zero_pad k.0 in
        let both = and_parts (eqb (width_of f) (greatest_length f kind)) (is_signed_decimal f.conversion_type kind) k.1 in
        just_clear sides.0 sides.1 (eqb-true (width_of f) (greatest_length f kind) both.0) both.1 k.2
  ]

-- ---- the opening of a character

character_cases : (v : ConversionType) (a b : Bool) → is_opening_taken v (cond a Any (cond b Wide Space)) ≡ false → (a ≡ false) × (((b ≡ true) × (is_text v ≡ false)) ⊎ (b ≡ false))
character_cases v true b h = absurd (let bad : true ≡ false = h in cc)
character_cases v false true h = (refl, inl (refl, h))
character_cases v false false h = (refl, inr refl)

not_ascii : (c : ℕ) → 2 ≤ len_utf8 c → 128 ≤ c
not_ascii c h = elim (cases_lt c 128) [ inl low ↦ absurd (omega (arith, len_utf8_ascii c low, h)) | inr high ↦ high ]

wide_by : (v : ConversionType) (room c : ℕ) (rest : List ℕ) → IsScalar c → is_text v ≡ false → (room ≡ 0 → 128 ≤ c) → IsClear v ((replicate room 32 ++ encode_utf8 c) ++ rest)
wide_by v zero c rest scalar h high d is t = omega (arith, high refl, takes_low v d h t, same_some (sym is ∙ first_char c rest scalar))
wide_by v (suc room) c rest scalar h high d is t = head_clear v ((replicate (suc room) 32 ++ encode_utf8 c) ++ rest) (omega arith, space_clear v None) d is t

front_form : (left : Bool) (room : ℕ) (text : List ℕ) → left ≡ false → word_form left room text ≡ replicate room 32 ++ text
front_form true room text h = absurd (let bad : true ≡ false = h in cc)
front_form false room text h = refl

pub character_clear : (v : ConversionType) (f : ConversionSpecifier) (x : Datum) (rest : List ℕ) → f.conversion_type ≡ CharConversion → f.width ≢ FromArgument → IsOfKind Char x
    → is_opening_taken v (character_opening f) ≡ false → IsClear v (field_text f Char x ++ rest)
character_clear v f (character c) rest conversion given is h =
    let k = character_cases v (f.left_adj || nat_le (width_of f) 1) (nat_le (width_of f) 4) h in
    let sides = or_parts f.left_adj (nat_le (width_of f) 1) k.0 in
    let above = leb-false (width_of f) 1 sides.1 in
    let room = width_of f - length (encode_utf8 c) in
    let text : field_text f Char (character c) ≡ replicate room 32 ++ encode_utf8 c = character_is f c conversion given ∙ front_form f.left_adj room (encode_utf8 c) sides.0 in
    subst (λ (t : List ℕ). IsClear v (t ++ rest)) (sym text) (elim k.1 [
      | inl j ↦ wide_by v room c rest is j.1 (λ none. not_ascii c (omega (arith, length-encode c, above, none)))
      | inr j ↦ head_clear v ((replicate room 32 ++ encode_utf8 c) ++ rest) (head_front v (replicate room 32 ++ encode_utf8 c) rest (spaces_head v room (encode_utf8 c)
          (let most = len_utf8_bounds c in omega (arith, length-encode c, most.1, leb-false (width_of f) 4 j))))
    ])
character_clear v f (natural n) rest conversion given is h = absurd is
character_clear v f (integer z) rest conversion given is h = absurd is
character_clear v f (word text) rest conversion given is h = absurd is

-- ---- every field

pub opening_clear : (v : ConversionType) (c : Column) (kind : Kind) (x : Datum) (rest : List ℕ) → IsPaired c kind → IsOfKind kind x → is_opening_taken v (field_opening c.field kind) ≡ false → IsClear v (field_text c.field kind x ++ rest)
opening_clear v c Word x rest paired is h = absurd (let bad : true ≡ false = h in cc)
opening_clear v c Char x rest paired is h = character_clear v c.field x rest (converts_character c.field.conversion_type paired.0) paired.1 is h
opening_clear v c kind x rest paired is h =
    head_clear v (field_text c.field kind x ++ rest) (head_front v (field_text c.field kind x) rest (number_clear v c.field kind refl (converts_digits c.field.conversion_type kind refl paired.0) paired.1 x is h))

-- a field without literal text behind it
pub stop_none : (c : Column) → c.after ≡ [] → stop c ≡ None
stop_none c none = ap (λ (t : List ℕ). first (chars t)) none ∙ first_none

pub behind_none : (c : Column) (text : List ℕ) → c.after ≡ [] → c.after ++ text ≡ text
behind_none c text none = ap (λ (t : List ℕ). t ++ text) none

pub not_followed : (c next : Column) (cs : List Column) (kind : Kind) (kinds : List Kind) → c.after ≡ [] → IsPaired next kind → is_opening_taken c.field.conversion_type (field_opening next.field kind) ≡ false → IsFollowed c (next ∷ cs) (kind ∷ kinds) → ⊥
not_followed c next cs kind kinds none paired h ([], fit, taken) = fit
not_followed c next cs kind kinds none paired h (x ∷ values, fit, taken) =
    opening_clear c.field.conversion_type next kind x (next.after ++ columns_text cs kinds values) paired fit.0.0 h taken.0
    (ap (λ (t : List ℕ). first (chars t)) (sym (behind_none c (columns_text (next ∷ cs) (kind ∷ kinds) (x ∷ values)) none)) ∙ taken.1)
    (subst (λ end. Takes c.field.conversion_type end taken.0) (stop_none c none) taken.2)

-- nothing behind a field
pub none_behind : (c : Column) (cs : List Column) (kinds : List Kind) → c.after ≡ [] → ((values : List Datum) → columns_text cs kinds values ≡ []) → IsFollowed c cs kinds → ⊥
none_behind c cs kinds none empty (values, fit, taken) =
    let bad : None ≡ Some taken.0 = sym first_none ∙ ap (λ (t : List ℕ). first (chars t)) (sym (behind_none c (columns_text cs kinds values) none ∙ empty values)) ∙ taken.1 in
    cc

-- ---- literal text

pub taken_true : (v : ConversionType) (c : ℕ) (end : Option ℕ) → is_taken v c ≡ true → Takes v end c
taken_true DecInt c end h = ltb-true (digit_value c) 10 h
taken_true OctInt c end h = ltb-true (digit_value c) 10 h
taken_true HexIntLower c end h = elim (or_cases (nat_lt (digit_value c) 16) (eqb c 120) h) [ inl e ↦ inl (ltb-true (digit_value c) 16 e) | inr e ↦ inr (eqb-true c 120 e) ]
taken_true HexIntUpper c end h = elim (or_cases (nat_lt (digit_value c) 16) (eqb c 120) h) [ inl e ↦ inl (ltb-true (digit_value c) 16 e) | inr e ↦ inr (eqb-true c 120 e) ]
taken_true _ c end h = absurd (let bad : false ≡ true = h in cc)

taken_false : (v : ConversionType) (c : ℕ) → is_taken v c ≡ false → Takes v (Some c) c → ⊥
taken_false DecInt c h t = omega (arith, ltb-false (digit_value c) 10 h, t)
taken_false OctInt c h t = omega (arith, ltb-false (digit_value c) 10 h, t)
taken_false HexIntLower c h (inl t) = let both = or_parts (nat_lt (digit_value c) 16) (eqb c 120) h in omega (arith, ltb-false (digit_value c) 16 both.0, t)
taken_false HexIntLower c h (inr t) = let both = or_parts (nat_lt (digit_value c) 16) (eqb c 120) h in eqb-false c 120 both.1 t
taken_false HexIntUpper c h (inl t) = let both = or_parts (nat_lt (digit_value c) 16) (eqb c 120) h in omega (arith, ltb-false (digit_value c) 16 both.0, t)
taken_false HexIntUpper c h (inr t) = let both = or_parts (nat_lt (digit_value c) 16) (eqb c 120) h in eqb-false c 120 both.1 t
taken_false String c h t = t.1 refl
taken_false CharConversion c h t = t.1 refl
taken_false _ c h t = t

pub literal_taken : (c : Column) (cs : List Column) (kinds : List Kind) (letter : ℕ) (rest : List ℕ) → IsUtf8 c.after → c.after ≡ encode_utf8 letter ++ rest → Never IsUnpaired cs kinds → is_taken c.field.conversion_type letter ≡ true → IsFollowed c cs kinds
literal_taken c cs kinds letter rest utf8 is never h =
    let values = all_plain cs kinds never in
    (values.0, values.1, (letter, (first_of_text c.after rest (columns_text cs kinds values.0) letter utf8 is).1, taken_true c.field.conversion_type letter (stop c) h))

pub literal_clear : (c : Column) (cs : List Column) (kinds : List Kind) (letter : ℕ) (rest : List ℕ) → IsUtf8 c.after → c.after ≡ encode_utf8 letter ++ rest → is_taken c.field.conversion_type letter ≡ false → IsFollowed c cs kinds → ⊥
literal_clear c cs kinds letter rest utf8 is h (values, fit, taken) =
    let firsts = first_of_text c.after rest (columns_text cs kinds values) letter utf8 is in
    let same : taken.0 ≡ letter = same_some (sym taken.1 ∙ firsts.1) in
    taken_false c.field.conversion_type letter h (subst (λ x. Takes c.field.conversion_type (Some letter) x) same (subst (λ end. Takes c.field.conversion_type end taken.0) firsts.0 taken.2))
