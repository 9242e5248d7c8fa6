-- A planned text is cut into the planned directives.
use Rattle.std.proofs.Common.{cond, not, ◌&&◌, ◌≡◌, ◌<◌, ◌≤◌, ◌^◌, ◌-◌, ◌+◌, ℕ, Bool, true, false, List, [], ◌∷◌, ◌++◌, length, Option, Some, None, sym, ap, subst, refl, ◌∙◌, arith, append_assoc}
use Rattle.std.specs.List.{AllByRecursion}
use Rattle.std.specs.Prelude.{nat_le}
use Rattle.std.specs.Str.{chars, IsUtf8, IsAscii}
use Rattle.std.specs.Str.Parse.{AllDigits, digits_value}
use Rattle.std.proofs.lemmas.Bool.{ne_eqb, lt-ltb, and_parts, leb-true}
use Rattle.std.proofs.lemmas.Str.{chars-append, chars-IsAscii, chars-nil, IsUtf8-from_ascii, IsUtf8-append, IsUtf8-nil}
use Rattle.numerals.specs.Numeral.{numeral}
use Rattle.numerals.proofs.Steps.{numeral-AllDigits, digits_value-numeral}
use Rattle.sprintf.specs.Field.{prefix_of}
use Rattle.sprintf.specs.declared.parser.ConversionSpecifier.{ConversionSpecifier}
use Rattle.sprintf.specs.declared.parser.ConversionType.{ConversionType}
use Rattle.sprintf.specs.declared.parser.ConversionType.TheVariants.{DecInt, OctInt, HexIntLower, HexIntUpper, Char, String}
use Rattle.scan_fmt.specs.Grammar.{is_blank, after_blanks, first, limit_of, Notation, Decimal, Hexadecimal, Float, Number, Directive, Exactly, Field, Cuts}
use Rattle.scan_fmt.specs.Inner.Fields.{letter}
use Rattle.values.specs.declared.kind.Kind.{Kind}
use Rattle.values.specs.declared.kind.Kind.TheVariants.{U8, U16, U32, U64, Usize, I8, I16, I32, I64, Isize, Word, Char as CharKind}
use Rattle.row_format.specs.Columns.{Column, Columns, width_of}
use Rattle.row_format.specs.Fit.{stop}
use Rattle.row_format.specs.Laws.{IsText, AreTexts}
use Rattle.row_format.specs.Plannable.{Converts, IsPaired, IsUnpaired, Never, is_number, is_signed, by_bits, greatest_digits, greatest_length, is_exact}
use Rattle.row_format.specs.Planned.{escaped, escaped_byte, number_field, text_field, field_by, planned_field, planned_columns, planned_text}
use Rattle.row_laws.specs.Inner.Directives.{exactly, limit_when, text_shape, shape_by, shape_of, front_by, front_of, column_directives, planned_directives}
use Rattle.scan_fmt.proofs.Characters.{ascii_from}
use Rattle.scan_fmt.proofs.Cutting.{spells_longer}
use Rattle.scan_fmt.proofs.Digits.{each_append, digits_ascii}
use Rattle.row_laws.proofs.Literals.{blank_escaped, solid_escaped, spells_escaped, first_escaped, chars_escaped}

after_blank : (c : ℕ) (cs : List ℕ) → is_blank c ≡ true → after_blanks (c ∷ cs) ≡ after_blanks cs
after_blank c cs h = rw h refl

cuts_blank : (c : ℕ) (format : List ℕ) (ds : List Directive) → is_blank c ≡ true → Cuts format ds → Cuts (c ∷ format) ds
cuts_blank c format [] h cut = rw (after_blank c format h) cut
cuts_blank c format (d ∷ ds) h cut = rw (after_blank c format h) cut

cuts_solid : (c : ℕ) (format : List ℕ) (ds : List Directive) → is_blank c ≡ false → Cuts format ds → Cuts (escaped_byte c ++ format) (Exactly c ∷ ds)
cuts_solid c format ds h cut = (format, rw (solid_escaped c format h) (spells_escaped c format), cut)

-- Literal characters are cut into those that aren't white space.
cuts_char : (c : ℕ) (format : List ℕ) (ds : List Directive) (cs : List ℕ) → Cuts format (exactly cs ++ ds) → Cuts (escaped_byte c ++ format) (exactly (c ∷ cs) ++ ds)
cuts_char c format ds cs cut = by_test (is_blank c) refl where
  by_test : (b : Bool) → is_blank c ≡ b → Cuts (escaped_byte c ++ format) (exactly (c ∷ cs) ++ ds)
  by_test true h = rw (blank_escaped c h, h) (cuts_blank c format (exactly cs ++ ds) h cut)
  by_test false h = rw h (cuts_solid c format (exactly cs ++ ds) h cut)

pub cuts_exactly : (cs format : List ℕ) (ds : List Directive) → Cuts format ds → Cuts (escaped cs ++ format) (exactly cs ++ ds)
cuts_exactly [] format ds cut = cut
cuts_exactly (c ∷ cs) format ds cut = rw (append_assoc (escaped_byte c) (escaped cs) format) (cuts_char c (escaped cs ++ format) ds cs (cuts_exactly cs format ds cut))

-- At the end of a format no directive stands in front.
pub cuts_end : Cuts [] []
cuts_end d rest spells = absurd (omega (arith, spells_longer d [] rest spells))

-- A width that may be the limit of a field.
abbrev pub IsLimit : ℕ → Type 0
IsLimit n = (0 < n) × (n ≤ 2147483647)

limit_is : (n : ℕ) → IsLimit n → Some n ≡ limit_of (numeral 10 false n)
limit_is n fits =
    let v : digits_value 10 (numeral 10 false n) ≡ n = digits_value-numeral 10 n false (omega arith) (omega arith) (omega arith) in
    rw (v, ne_eqb n 0 (λ e. omega arith), lt-ltb n (2 ^ 64) (omega arith)) refl

cuts_letter : (notation : Notation) (limit : Option ℕ) (digits format : List ℕ) (ds : List Directive) → AllDigits 10 digits → limit ≡ limit_of digits → Cuts format ds
    → Cuts ((((123 ∷ digits) ++ (letter notation ∷ [])) ++ (125 ∷ [])) ++ format) (Field true (Number notation limit) ∷ ds)
cuts_letter Decimal limit digits format ds each is cut =
    (format, (((digits ++ (letter Decimal ∷ [])) ++ (125 ∷ [])) ++ format, refl, (digits, simp append_assoc, each, is)), cut)
cuts_letter Hexadecimal limit digits format ds each is cut =
    (format, (((digits ++ (letter Hexadecimal ∷ [])) ++ (125 ∷ [])) ++ format, refl, (digits, simp append_assoc, each, is)), cut)
cuts_letter Float limit digits format ds each is cut =
    (format, (((digits ++ (letter Float ∷ [])) ++ (125 ∷ [])) ++ format, refl, (digits, simp append_assoc, each, is)), cut)

-- A number's field.
cuts_number : (notation : Notation) (exact : Bool) (n : ℕ) (format : List ℕ) (ds : List Directive) → (exact ≡ true → IsLimit n) → Cuts format ds
    → Cuts (number_field exact n (letter notation ∷ []) ++ format) (Field true (Number notation (limit_when exact n)) ∷ ds)
cuts_number notation false n format ds fits cut = cuts_letter notation None [] format ds tt refl cut
cuts_number notation true n format ds fits cut =
    let is : IsLimit n = fits refl in
    cuts_letter notation (Some n) (numeral 10 false n) format ds (numeral-AllDigits 10 n false (omega arith) (omega arith) (omega arith)) (limit_is n is) cut

-- A word's or character's field.
cuts_text : (end : Option ℕ) (format : List ℕ) (ds : List Directive) → ((c : ℕ) → end ≡ Some c → first format ≡ Some c) → Cuts format ds
    → Cuts (text_field end ++ format) (Field true (text_shape end) ∷ ds)
cuts_text (Some c) format ds next cut = (format, (125 ∷ format, refl, (refl, sym (next c refl))), cut)
cuts_text None format ds next cut = (format, (115 ∷ 125 ∷ format, refl, (None, ([], refl, tt, refl))), cut)

cuts_prefix : (format : List ℕ) (ds : List Directive) → Cuts format ds → Cuts (48 ∷ 88 ∷ format) (Exactly 48 ∷ Exactly 88 ∷ ds)
cuts_prefix format ds cut = cuts_exactly (48 ∷ 88 ∷ []) format ds cut

-- The limit that an exact field has: a prefix `0X` in front is not counted.
abbrev pub limit_width : ConversionType → Bool → ℕ → ℕ
limit_width HexIntUpper true width = width - 2
limit_width _ _ width = width

-- The field of a column, by its conversion.
pub cuts_field : (v : ConversionType) (kind : Kind) (alternate exact : Bool) (width : ℕ) (end : Option ℕ) (format : List ℕ) (ds : List Directive)
    → Converts v kind → (exact ≡ true → IsLimit (limit_width v alternate width)) → ((c : ℕ) → end ≡ Some c → first format ≡ Some c) → Cuts format ds
    → Cuts (field_by v alternate exact width end ++ format) (exactly (front_by v alternate) ++ (Field true (shape_by v alternate exact width end) ∷ ds))
cuts_field DecInt kind alternate exact width end format ds is fits next cut = cuts_number Decimal exact width format ds fits cut
cuts_field OctInt kind alternate exact width end format ds is fits next cut = cuts_number Decimal exact width format ds fits cut
cuts_field HexIntLower kind alternate exact width end format ds is fits next cut = cuts_number Hexadecimal exact width format ds fits cut
cuts_field HexIntUpper kind false exact width end format ds is fits next cut = cuts_number Hexadecimal exact width format ds fits cut
cuts_field HexIntUpper kind true exact width end format ds is fits next cut =
    cuts_prefix (number_field exact (width - 2) (120 ∷ []) ++ format) (Field true (Number Hexadecimal (limit_when exact (width - 2))) ∷ ds)
    (cuts_number Hexadecimal exact (width - 2) format ds fits cut)
cuts_field String kind alternate exact width end format ds is fits next cut = cuts_text end format ds next cut
cuts_field Char kind alternate exact width end format ds is fits next cut = cuts_text end format ds next cut
cuts_field v kind alternate exact width end format ds is fits next cut = absurd is

bits_from : (a b c d : ℕ) (kind : Kind) → 2 ≤ a → 2 ≤ b → 2 ≤ c → 2 ≤ d → 2 ≤ by_bits a b c d kind
bits_from a b c d U8 h i j k = h
bits_from a b c d U16 h i j k = i
bits_from a b c d U32 h i j k = j
bits_from a b c d U64 h i j k = k
bits_from a b c d Usize h i j k = k
bits_from a b c d I8 h i j k = h
bits_from a b c d I16 h i j k = i
bits_from a b c d I32 h i j k = j
bits_from a b c d I64 h i j k = k
bits_from a b c d Isize h i j k = k
bits_from a b c d kind h i j k = h

cond_from : (b : Bool) (m n : ℕ) → 2 ≤ m → 2 ≤ n → 2 ≤ cond b m n
cond_from true m n h k = h
cond_from false m n h k = k

digits_from : (v : ConversionType) (kind : Kind) → 2 ≤ greatest_digits v kind
digits_from DecInt kind = cond_from (is_signed kind) (by_bits 4 6 11 20 kind) (by_bits 3 5 10 20 kind)
    (bits_from 4 6 11 20 kind (omega arith) (omega arith) (omega arith) (omega arith)) (bits_from 3 5 10 20 kind (omega arith) (omega arith) (omega arith) (omega arith))
digits_from OctInt kind = bits_from 3 6 11 22 kind (omega arith) (omega arith) (omega arith) (omega arith)
digits_from v kind = bits_from 2 4 8 16 kind (omega arith) (omega arith) (omega arith) (omega arith)

limit_some : (v : ConversionType) (alternate : Bool) (kind : Kind) (width : ℕ) → length (cond alternate (prefix_of v) []) + greatest_digits v kind ≤ width → 0 < limit_width v alternate width
limit_some HexIntUpper true kind width fits = omega (arith, digits_from HexIntUpper kind)
limit_some v alternate kind width fits = omega (arith, digits_from v kind)

limit_most : (v : ConversionType) (alternate : Bool) (width : ℕ) → limit_width v alternate width ≤ width
limit_most HexIntUpper true width = omega arith
limit_most v alternate width = omega arith

-- An exact field has a limit.
pub exact_limit : (f : ConversionSpecifier) (kind : Kind) → width_of f ≤ 2147483647 → is_exact f kind ≡ true → IsLimit (limit_width f.conversion_type f.alt_form (width_of f))
exact_limit f kind small exact =
    let wide : greatest_length f kind ≤ width_of f = leb-true (greatest_length f kind) (width_of f) (and_parts (((is_number kind && f.zero_pad) && not f.left_adj) && not f.space_sign) (nat_le (greatest_length f kind) (width_of f)) exact).1 in
    (limit_some f.conversion_type f.alt_form kind (width_of f) wide, omega (arith, limit_most f.conversion_type f.alt_form (width_of f)))

-- All characters are ASCII.
abbrev Low : List ℕ → Type 0
Low = AllByRecursion (λ c. c < 128)

number_low : (exact : Bool) (n c : ℕ) → c < 128 → n ≤ 2147483647 → Low (number_field exact n (c ∷ []))
number_low false n c low small = (omega arith, (low, (omega arith, tt)))
number_low true n c low small =
    let digits : Low (numeral 10 false n) = digits_ascii 10 (numeral 10 false n) (omega arith) (numeral-AllDigits 10 n false (omega arith) (omega arith) (omega arith)) in
    each_append (λ d. d < 128) ((123 ∷ numeral 10 false n) ++ (c ∷ [])) (125 ∷ [])
    (each_append (λ d. d < 128) (123 ∷ numeral 10 false n) (c ∷ []) (omega arith, digits) (low, tt)) (omega arith, tt)

text_low : (end : Option ℕ) → Low (text_field end)
text_low (Some c) = (omega arith, (omega arith, tt))
text_low None = (omega arith, (omega arith, (omega arith, tt)))

field_low : (v : ConversionType) (alternate exact : Bool) (width : ℕ) (end : Option ℕ) → width ≤ 2147483647 → Low (field_by v alternate exact width end)
field_low DecInt alternate exact width end small = number_low exact width 100 (omega arith) small
field_low OctInt alternate exact width end small = number_low exact width 100 (omega arith) small
field_low HexIntLower alternate exact width end small = number_low exact width 120 (omega arith) small
field_low HexIntUpper false exact width end small = number_low exact width 120 (omega arith) small
field_low HexIntUpper true exact width end small = (omega arith, (omega arith, number_low exact (width - 2) 120 (omega arith) (omega arith)))
field_low String alternate exact width end small = text_low end
field_low Char alternate exact width end small = text_low end
field_low v alternate exact width end small = tt

-- What doesn't stay unpaired is paired.
word_stable : (kind : Kind) → ¬ (¬ (kind ≡ Word)) → kind ≡ Word
word_stable Word h = refl
word_stable kind h = absurd (h (λ e. cc))

character_stable : (kind : Kind) → ¬ (¬ (kind ≡ CharKind)) → kind ≡ CharKind
character_stable CharKind h = refl
character_stable kind h = absurd (h (λ e. cc))

number_stable : (b : Bool) → ¬ (¬ (b ≡ true)) → b ≡ true
number_stable true h = refl
number_stable false h = absurd (h (λ e. cc))

converts_stable : (v : ConversionType) (kind : Kind) → ¬ (¬ Converts v kind) → Converts v kind
converts_stable DecInt kind h = number_stable (is_number kind) h
converts_stable OctInt kind h = number_stable (is_number kind) h
converts_stable HexIntLower kind h = number_stable (is_number kind) h
converts_stable HexIntUpper kind h = number_stable (is_number kind) h
converts_stable String kind h = word_stable kind h
converts_stable Char kind h = character_stable kind h
converts_stable v kind h = h (λ bad. bad)

pub paired_of : (c : Column) (kind : Kind) → ¬ (¬ IsPaired c kind) → IsPaired c kind
paired_of c kind h = (converts_stable c.field.conversion_type kind (λ k. h (λ p. k p.0)), (λ e. h (λ p. p.1 e)), (λ e. h (λ p. p.2 e)))

-- The stop character follows the field in the format.
first_next : (cs more : List ℕ) (c : ℕ) → first cs ≡ Some c → first (escaped cs ++ more) ≡ Some c
first_next [] more c e = absurd (cc)
first_next (x ∷ cs) more c e = rw (append_assoc (escaped_byte x) (escaped cs) more) (first_escaped x (escaped cs ++ more) ∙ e)

-- The characters of a column's text in front of a format.
column_chars : (c : Column) (kind : Kind) (format : List ℕ) → IsUtf8 c.after → width_of c.field ≤ 2147483647 → IsUtf8 format
    → (chars (planned_field c kind ++ (escaped c.after ++ format)) ≡ planned_field c kind ++ (escaped (chars c.after) ++ chars format)) × IsUtf8 (planned_field c kind ++ (escaped c.after ++ format))
column_chars c kind format after small utf8 =
    let field = planned_field c kind in
    let low : IsAscii field = ascii_from field (field_low c.field.conversion_type c.field.alt_form (is_exact c.field kind) (width_of c.field) (stop c) small) in
    let literal = chars_escaped c.after after in
    let behind : chars (escaped c.after ++ format) ≡ escaped (chars c.after) ++ chars format = chars-append (escaped c.after) format literal.1 ∙ ap (λ (t : List ℕ). t ++ chars format) literal.0 in
    let is : chars (field ++ (escaped c.after ++ format)) ≡ field ++ chars (escaped c.after ++ format) =
    chars-append field (escaped c.after ++ format) (IsUtf8-from_ascii field low) ∙ ap (λ (t : List ℕ). t ++ chars (escaped c.after ++ format)) (chars-IsAscii field low) in
    let all : IsUtf8 (escaped c.after ++ format) = IsUtf8-append (escaped c.after) format literal.1 utf8 in
    (is ∙ ap (λ (t : List ℕ). field ++ t) behind, IsUtf8-append field (escaped c.after ++ format) (IsUtf8-from_ascii field low) all)

-- A column in front of a format.
column_cut : (c : Column) (kind : Kind) (format : List ℕ) (ds : List Directive) → IsPaired c kind → IsUtf8 c.after → width_of c.field ≤ 2147483647 → IsUtf8 format → Cuts (chars format) ds
    → Cuts (chars (planned_field c kind ++ (escaped c.after ++ format))) (exactly (front_of c) ++ (Field true (shape_of c kind) ∷ (exactly (chars c.after) ++ ds)))
column_cut c kind format ds pair after small utf8 cut =
    subst (λ (t : List ℕ). Cuts t (exactly (front_of c) ++ (Field true (shape_of c kind) ∷ (exactly (chars c.after) ++ ds)))) (sym (column_chars c kind format after small utf8).0)
    (cuts_field c.field.conversion_type kind c.field.alt_form (is_exact c.field kind) (width_of c.field) (stop c) (escaped (chars c.after) ++ chars format) (exactly (chars c.after) ++ ds)
    pair.0 (exact_limit c.field kind small) (first_next (chars c.after) (chars format)) (cuts_exactly (chars c.after) (chars format) ds cut))

columns_cut : (cs : List Column) (kinds : List Kind) → AreTexts cs → Never IsUnpaired cs kinds → Cuts (chars (planned_columns cs kinds)) (column_directives cs kinds) × IsUtf8 (planned_columns cs kinds)
columns_cut [] [] texts pairs = (subst (λ (t : List ℕ). Cuts t []) (sym chars-nil) cuts_end, IsUtf8-nil)
columns_cut [] (kind ∷ kinds) texts pairs = absurd (pairs tt)
columns_cut (c ∷ cs) [] texts pairs = absurd (pairs tt)
columns_cut (c ∷ cs) (kind ∷ kinds) texts pairs =
    let rest = columns_cut cs kinds texts.2 pairs.1 in
    let cut = column_cut c kind (planned_columns cs kinds) (column_directives cs kinds) (paired_of c kind pairs.0) texts.0 texts.1 rest.1 rest.0 in
    (cut, (column_chars c kind (planned_columns cs kinds) texts.0 texts.1 rest.1).1)

-- A planned text is cut into the planned directives.
pub planned_cut : (format : Columns) (kinds : List Kind) → IsText format → Never IsUnpaired format.columns kinds → Cuts (chars (planned_text format kinds)) (planned_directives format kinds)
planned_cut format kinds text pairs =
    let rest = columns_cut format.columns kinds text.1 pairs in
    let literal = chars_escaped format.head text.0 in
    let is : chars (planned_text format kinds) ≡ escaped (chars format.head) ++ chars (planned_columns format.columns kinds) =
    chars-append (escaped format.head) (planned_columns format.columns kinds) literal.1 ∙ ap (λ (t : List ℕ). t ++ chars (planned_columns format.columns kinds)) literal.0 in
    subst (λ (t : List ℕ). Cuts t (planned_directives format kinds)) (sym is) (cuts_exactly (chars format.head) (chars (planned_columns format.columns kinds)) (column_directives format.columns kinds) rest.0)
