-- What fields of a printf format print.
use Rattle.std.proofs.Common.{◌≡◌, ℕ, zero, suc, ◌+◌, ◌-◌, ◌≤◌, min, ℤ, pos, negsuc, Bool, true, false, if◌then◌else◌, List, [], ◌∷◌, ◌++◌, length, get_or, take, drop, codes, slice_range, slice_get, Option, Some, None, Result, Ok, Err, refl, sym, ap, subst, ◌∙◌, unsigned_abs, arith, add-one, append-nil, append_assoc}
use Rattle.std.specs.Fmt.Cut.{floor_char_boundary}
use Rattle.std.proofs.lemmas.List.{get_or_past, length-take}
use Rattle.std.proofs.Math.Seq.{take-length}
use Rattle.std.specs.Int.{w8, w16, w32, w64, cast_signed, cast_unsigned}
use Rattle.numerals.specs.Numeral.{numeral}
use Rattle.padding.specs.Field.{fills}
use Rattle.formatx.specs.Values.{decimal_of}
use Rattle.sprintf.specs.declared.PrintfError.{PrintfError}
use Rattle.sprintf.specs.declared.PrintfError.TheVariants.{WrongType}
use Rattle.sprintf.specs.declared.parser.ConversionSpecifier.{ConversionSpecifier}
use Rattle.sprintf.specs.declared.parser.ConversionType.{ConversionType}
use Rattle.sprintf.specs.declared.parser.ConversionType.TheVariants.{DecInt, OctInt, HexIntLower, HexIntUpper, String, PercentSign}
use Rattle.sprintf.specs.declared.parser.FormatElement.{FormatElement}
use Rattle.sprintf.specs.declared.parser.FormatElement.TheVariants.{Format}
use Rattle.sprintf.specs.declared.parser.NumericParam.{NumericParam}
use Rattle.sprintf.specs.declared.parser.NumericParam.TheVariants.{Literal}
use Rattle.sprintf.specs.Field.{filled_number, filled_word, number_of, with_number, number_text, unsigned_text, signed_text, word_text, prefix_of, digits_of, sign_of, cut_to}
use Rattle.sprintf.specs.Meaning.{Meaning, by_conversion}
use Rattle.sprintf.specs.Text.{field_by, field_text, onto, param_of, printed, stars, then_with, value_text, wanted, wanted_by}
use Rattle.values.specs.declared.kind.Kind.{Kind}
use Rattle.values.specs.declared.kind.Kind.TheVariants as Of
use Rattle.values.specs.Datum.{printf_meaning}
use Rattle.row_format.specs.Inner.Elements.{text_or_none}
use Rattle.tokens.specs.declared.Token.{Token}
use Rattle.tokens.specs.Tokens.{IsToken, datum_at}
use Rattle.pieces.specs.declared.layout.Form.{Form}
use Rattle.pieces.specs.declared.layout.Form.TheVariants.{Number, Signed, Copied, WithoutPlus, Field}
use Rattle.pieces.specs.declared.source.Source.{Source}
use Rattle.pieces.specs.declared.source.Source.TheVariants.{Natural, Text}
use Rattle.pieces.specs.Inner.Layout.{Parts, Grows, form_of, layout_text, text_where, token_text, without_plus}
use Rattle.pieces.specs.Inner.Source.{source_of, decimal_source, bits_source, word_source}
use Rattle.pieces.specs.Inner.Printf.{HasFormUnder, HasNumbers, IsFormUnder, IsPlain, IsPlainNumber, IsPlainWord, IsPlusNumber, Moves, TakesOne, meanings, printed_behind}
use Rattle.pieces.proofs.ValueLemmas.{here, none_left}

-- ---- numbers

by_flags : (left zero_pad : Bool) (lead digits : List ℕ) → (if left then lead ++ digits ++ fills 0 32 else (if zero_pad then lead ++ fills 0 48 ++ digits else fills 0 32 ++ lead ++ digits)) ≡ lead ++ digits
by_flags true zero_pad lead digits = append-nil (lead ++ digits)
by_flags false true lead digits = ap (λ (t : List ℕ). t ++ digits) (append-nil lead)
by_flags false false lead digits = refl

filled_plain : (f : ConversionSpecifier) (lead digits : List ℕ) (n : ℕ) → filled_number f (0 - n) lead digits ≡ lead ++ digits
filled_plain f lead digits n = let none : 0 - n ≡ 0 = omega arith in ap (λ (room : ℕ). filled_number f room lead digits) none ∙ by_flags f.left_adj f.zero_pad lead digits

number_by : (f : ConversionSpecifier) (conversion : ConversionType) (width : NumericParam) (lead : List ℕ) (n : ℕ) → conversion ≡ DecInt → width ≡ Literal (pos 0)
    → with_number (number_of width) (λ w. Ok (filled_number f (w - (length lead + length (digits_of conversion n))) lead (digits_of conversion n))) ≡ Ok (lead ++ numeral 10 false n)
number_by f conversion width lead n c w = rw (c, w) (ap (λ (t : List ℕ). Ok t) (filled_plain f lead (numeral 10 false n) (length lead + length (numeral 10 false n))))

number_plain : (f : ConversionSpecifier) (lead : List ℕ) (n : ℕ) → IsPlainNumber f → number_text f lead n ≡ Ok (lead ++ numeral 10 false n)
number_plain f lead n p = number_by f f.conversion_type f.width lead n p.conversion p.width

no_prefix : (alternate : Bool) (conversion : ConversionType) → conversion ≡ DecInt → (if alternate then prefix_of conversion else []) ≡ []
no_prefix true conversion c = ap prefix_of c
no_prefix false conversion c = refl

unsigned_plain : (f : ConversionSpecifier) (n : ℕ) → IsPlainNumber f → unsigned_text f n ≡ Ok (numeral 10 false n)
unsigned_plain f n p =
    number_plain f (if f.alt_form then prefix_of f.conversion_type else []) n p
    ∙ ap (λ (lead : List ℕ). Ok (lead ++ numeral 10 false n)) (no_prefix f.alt_form f.conversion_type p.conversion)

sign_by : (plus space : Bool) (n : ℕ) → plus ≡ false → space ≡ false → (if plus then codes "+" else (if space then codes " " else [])) ++ numeral 10 false n ≡ numeral 10 false n
sign_by plus space n a b = rw (a, b) refl

sign_plain : (f : ConversionSpecifier) (z : ℤ) → IsPlainNumber f → sign_of f z ++ numeral 10 false (unsigned_abs z) ≡ decimal_of z
sign_plain f (pos n) p = sign_by f.force_sign f.space_sign n p.plus p.space
sign_plain f (negsuc n) p = refl

signed_by : (conversion : ConversionType) (f : ConversionSpecifier) (z : ℤ) (complement : ℕ) → conversion ≡ DecInt → signed_text conversion f z complement ≡ number_text f (sign_of f z) (unsigned_abs z)
signed_by conversion f z complement c = ap (λ (v : ConversionType). signed_text v f z complement) c

signed_plain : (f : ConversionSpecifier) (z : ℤ) (complement : ℕ) → IsPlainNumber f → signed_text f.conversion_type f z complement ≡ Ok (decimal_of z)
signed_plain f z complement p =
    signed_by f.conversion_type f z complement p.conversion
    ∙ number_plain f (sign_of f z) (unsigned_abs z) p
    ∙ ap (λ (t : List ℕ). Ok t) (sign_plain f z p)

digits_by : (conversion : ConversionType) (d c w : Result (List ℕ) PrintfError) → conversion ≡ DecInt → by_conversion conversion d c w ≡ d
digits_by conversion d c w e = ap (λ (v : ConversionType). by_conversion v d c w) e

-- the digits of a number behind a plus or minus sign

plus_by : (plus space : Bool) → plus ≡ true → (if plus then codes "+" else (if space then codes " " else [])) ≡ codes "+"
plus_by plus space e = rw e refl

stripped : (f : ConversionSpecifier) (z : ℤ) → IsPlusNumber f → without_plus (sign_of f z ++ numeral 10 false (unsigned_abs z)) ≡ decimal_of z
stripped f (pos n) p = ap (λ (sign : List ℕ). without_plus (sign ++ numeral 10 false n)) (plus_by f.force_sign f.space_sign p.plus)
stripped f (negsuc n) p = refl

plus_printed : (f : ConversionSpecifier) (z : ℤ) (complement : ℕ) (c w : Result (List ℕ) PrintfError) → IsPlusNumber f → without_plus (text_or_none (by_conversion f.conversion_type (signed_text f.conversion_type f z complement) c w)) ≡ decimal_of z
plus_printed f z complement c w p =
    ap (λ (r : Result (List ℕ) PrintfError). without_plus (text_or_none r))
    (digits_by f.conversion_type (signed_text f.conversion_type f z complement) c w p.conversion ∙ signed_by f.conversion_type f z complement p.conversion ∙ number_by f f.conversion_type f.width (sign_of f z) (unsigned_abs z) p.conversion p.width)
    ∙ stripped f z p

pub plus_told : (kind : Kind) (f : ConversionSpecifier) (row : List ℕ) (token : Token) → form_of kind ≡ Some Signed → IsPlusNumber f → without_plus (text_or_none ((printf_meaning kind (datum_at kind row token)).text f)) ≡ token_text Signed row token
plus_told Of.U8 f row token e p = cc
plus_told Of.U16 f row token e p = cc
plus_told Of.U32 f row token e p = cc
plus_told Of.U64 f row token e p = cc
plus_told Of.Usize f row token e p = cc
plus_told Of.I8 f row token e p = plus_printed f (cast_signed w64 token.number) _ _ _ p
plus_told Of.I16 f row token e p = plus_printed f (cast_signed w64 token.number) _ _ _ p
plus_told Of.I32 f row token e p = plus_printed f (cast_signed w64 token.number) _ _ _ p
plus_told Of.I64 f row token e p = plus_printed f (cast_signed w64 token.number) _ _ _ p
plus_told Of.Isize f row token e p = plus_printed f (cast_signed w64 token.number) _ _ _ p
plus_told Of.Word f row token e p = cc
plus_told Of.Char f row token e p = cc

-- ---- words

floor_whole : (bs : List ℕ) (i : ℕ) → i ≡ length bs → floor_char_boundary bs i ≡ i
unfolding floor_char_boundary
floor_whole bs zero e = refl
floor_whole bs (suc i) e = let past : get_or bs (suc i) 0 ≡ 0 = get_or_past bs (suc i) 0 (omega arith) in rw past refl

pub uncut : (precision : ℕ) (text : List ℕ) → length text ≤ precision → cut_to precision text ≡ text
uncut precision text le =
    let least : min precision (length text) ≡ length text = omega arith in
    ap (λ (n : ℕ). take (floor_char_boundary text n) text) least ∙ ap (λ (n : ℕ). take n text) (floor_whole text (length text) refl) ∙ take-length text

word_flags : (left : Bool) (word : List ℕ) → (if left then word ++ fills 0 32 else fills 0 32 ++ word) ≡ word
word_flags true word = append-nil word
word_flags false word = refl

filled_word_plain : (f : ConversionSpecifier) (word : List ℕ) (n : ℕ) → filled_word f (0 - n) word ≡ word
filled_word_plain f word n = let none : 0 - n ≡ 0 = omega arith in ap (λ (room : ℕ). filled_word f room word) none ∙ word_flags f.left_adj word

word_by : (f : ConversionSpecifier) (width precision : NumericParam) (word : List ℕ) → width ≡ Literal (pos 0) → precision ≡ Literal (pos 2147483647) → length word ≤ 2147483647
    → with_number (number_of width) (λ w. with_number (number_of precision) (λ p. Ok (filled_word f (w - length (cut_to p word)) (cut_to p word)))) ≡ Ok word
word_by f width precision word w p le =
    ap (λ (v : NumericParam). with_number (number_of v) (λ w. with_number (number_of precision) (λ p. Ok (filled_word f (w - length (cut_to p word)) (cut_to p word))))) w
    ∙ ap (λ (v : NumericParam). with_number (number_of v) (λ p. Ok (filled_word f (0 - length (cut_to p word)) (cut_to p word)))) p
    ∙ ap (λ (t : List ℕ). Ok (filled_word f (0 - length t) t)) (uncut 2147483647 word le)
    ∙ ap (λ (t : List ℕ). Ok t) (filled_word_plain f word (length word))

word_plain : (f : ConversionSpecifier) (word : List ℕ) → IsPlainWord f → length word ≤ 2147483647 → by_conversion f.conversion_type (Err WrongType) (Err WrongType) (word_text f word) ≡ Ok word
word_plain f word p le =
    ap (λ (v : ConversionType). by_conversion v (Err WrongType) (Err WrongType) (word_text f word)) p.conversion
    ∙ word_by f f.width f.precision word p.width p.precision le

-- ---- tokens

abbrev IsPlainWhere : Option Form → ConversionSpecifier → Type 0
IsPlainWhere (Some form) f = IsPlain form f
IsPlainWhere None f = ⊥

abbrev told : Option Form → List ℕ → Token → Result (List ℕ) PrintfError
told (Some form) row token = Ok (token_text form row token)
told None row token = Err WrongType

slice_short : (row : List ℕ) (from to : ℕ) → to ≤ from + 2147483647 → length (slice_range row from to) ≤ 2147483647
slice_short row from to h = omega (arith, length-take {A = ℕ})

-- a number that goes to digits
natural_told : (f : ConversionSpecifier) (n : ℕ) (c w : Result (List ℕ) PrintfError) → IsPlainNumber f → by_conversion f.conversion_type (unsigned_text f n) c w ≡ Ok (numeral 10 false n)
natural_told f n c w p = digits_by f.conversion_type (unsigned_text f n) c w p.conversion ∙ unsigned_plain f n p

integer_told : (f : ConversionSpecifier) (z : ℤ) (complement : ℕ) (c w : Result (List ℕ) PrintfError) → IsPlainNumber f → by_conversion f.conversion_type (signed_text f.conversion_type f z complement) c w ≡ Ok (decimal_of z)
integer_told f z complement c w p = digits_by f.conversion_type (signed_text f.conversion_type f z complement) c w p.conversion ∙ signed_plain f z complement p

token_told : (kind : Kind) (f : ConversionSpecifier) (row : List ℕ) (token : Token) → IsPlainWhere (form_of kind) f → IsToken kind row token → (printf_meaning kind (datum_at kind row token)).text f ≡ told (form_of kind) row token
token_told Of.U8 f row token p is = natural_told f token.number _ _ p
token_told Of.U16 f row token p is = natural_told f token.number _ _ p
token_told Of.U32 f row token p is = natural_told f token.number _ _ p
token_told Of.U64 f row token p is = natural_told f token.number _ _ p
token_told Of.Usize f row token p is = natural_told f token.number _ _ p
token_told Of.I8 f row token p is = integer_told f _ _ _ _ p
token_told Of.I16 f row token p is = integer_told f _ _ _ _ p
token_told Of.I32 f row token p is = integer_told f _ _ _ _ p
token_told Of.I64 f row token p is = integer_told f _ _ _ _ p
token_told Of.Isize f row token p is = integer_told f _ _ _ _ p
token_told Of.Word f row token p is = word_plain f (slice_range row token.start token.end) p (slice_short row token.start token.end is.whole)
token_told Of.Char f row token p is = absurd p

token_printed : (kind : Kind) (form : Form) (f : ConversionSpecifier) (row : List ℕ) (token : Token) → form_of kind ≡ Some form → IsPlain form f → IsToken kind row token → (printf_meaning kind (datum_at kind row token)).text f ≡ Ok (token_text form row token)
token_printed kind form f row token e p is =
    token_told kind f row token (subst (λ (o : Option Form). IsPlainWhere o f) (sym e) p) is ∙ ap (λ (o : Option Form). told o row token) e

-- ---- fields with a width and flags

-- an answer that is no refusal is the text of another that is the same
told_by : (a b r : Result (List ℕ) PrintfError) (text : List ℕ) → a ≡ r → b ≡ r → r ≡ Ok text → a ≡ Ok (text_or_none b)
told_by a b r text e h t = e ∙ t ∙ sym (ap (λ (x : Result (List ℕ) PrintfError). Ok (text_or_none x)) (h ∙ t))

abbrev IsText : Result (List ℕ) PrintfError → Type 0
IsText r = (text : List ℕ) × (r ≡ Ok text)

with_literal : (z : ℤ) (next : ℕ → Result (List ℕ) PrintfError) → ((n : ℕ) → IsText (next n)) → IsText (with_number (number_of (Literal z)) next)
with_literal (pos n) next all = all n
with_literal (negsuc n) next all = all 0

with_param : (p : NumericParam) (next : ℕ → Result (List ℕ) PrintfError) → (z : ℤ) × (p ≡ Literal z) → ((n : ℕ) → IsText (next n)) → IsText (with_number (number_of p) next)
with_param p next is all = subst (λ (q : NumericParam). IsText (with_number (number_of q) next)) (sym is.1) (with_literal is.0 next all)

number_is_text : (f : ConversionSpecifier) (lead : List ℕ) (n : ℕ) → HasNumbers f → IsText (number_text f lead n)
number_is_text f lead n has = with_param f.width (λ width. Ok (filled_number f (width - (length lead + length (digits_of f.conversion_type n))) lead (digits_of f.conversion_type n))) has.width (λ width. (_, refl))

word_is_text : (f : ConversionSpecifier) (word : List ℕ) → HasNumbers f → IsText (word_text f word)
word_is_text f word has =
    with_param f.width (λ width. with_number (number_of f.precision) (λ precision. Ok (filled_word f (width - length (cut_to precision word)) (cut_to precision word)))) has.width
    (λ width. with_param f.precision (λ precision. Ok (filled_word f (width - length (cut_to precision word)) (cut_to precision word))) has.precision (λ precision. (_, refl)))

-- a conversion to digits
abbrev GoesToDigits : ConversionType → Type 0
GoesToDigits conversion = (d c w : Result (List ℕ) PrintfError) → by_conversion conversion d c w ≡ d

-- a conversion that prints a number with a sign as its two's complement
abbrev GoesToBits : ConversionType → Type 0
GoesToBits conversion = GoesToDigits conversion × ((f : ConversionSpecifier) (z : ℤ) (complement : ℕ) → signed_text conversion f z complement ≡ unsigned_text f complement)

natural_taken : (f : ConversionSpecifier) (n : ℕ) (c w c' w' : Result (List ℕ) PrintfError) → GoesToDigits f.conversion_type → HasNumbers f
    → by_conversion f.conversion_type (unsigned_text f n) c w ≡ Ok (text_or_none (by_conversion f.conversion_type (unsigned_text f n) c' w'))
natural_taken f n c w c' w' goes has =
    let text = number_is_text f (if f.alt_form then prefix_of f.conversion_type else []) n has in
    told_by _ _ (unsigned_text f n) text.0 (goes (unsigned_text f n) c w) (goes (unsigned_text f n) c' w') text.1

integer_taken : (f : ConversionSpecifier) (z : ℤ) (k k' : ℕ) (c w c' w' : Result (List ℕ) PrintfError) → f.conversion_type ≡ DecInt → HasNumbers f
    → by_conversion f.conversion_type (signed_text f.conversion_type f z k) c w ≡ Ok (text_or_none (by_conversion f.conversion_type (signed_text f.conversion_type f z k') c' w'))
integer_taken f z k k' c w c' w' e has =
    let text = number_is_text f (sign_of f z) (unsigned_abs z) has in
    told_by _ _ (number_text f (sign_of f z) (unsigned_abs z)) text.0
    (digits_by f.conversion_type (signed_text f.conversion_type f z k) c w e ∙ signed_by f.conversion_type f z k e)
    (digits_by f.conversion_type (signed_text f.conversion_type f z k') c' w' e ∙ signed_by f.conversion_type f z k' e)
    text.1

bits_taken : (f : ConversionSpecifier) (z : ℤ) (k : ℕ) (c w c' w' : Result (List ℕ) PrintfError) → GoesToBits f.conversion_type → HasNumbers f
    → by_conversion f.conversion_type (signed_text f.conversion_type f z k) c w ≡ Ok (text_or_none (by_conversion f.conversion_type (unsigned_text f k) c' w'))
bits_taken f z k c w c' w' goes has =
    let text = number_is_text f (if f.alt_form then prefix_of f.conversion_type else []) k has in
    told_by _ _ (unsigned_text f k) text.0 (goes.0 (signed_text f.conversion_type f z k) c w ∙ goes.1 f z k) (goes.0 (unsigned_text f k) c' w') text.1

text_taken : (f : ConversionSpecifier) (word : List ℕ) → f.conversion_type ≡ String → HasNumbers f
    → by_conversion f.conversion_type (Err WrongType) (Err WrongType) (word_text f word) ≡ Ok (text_or_none (by_conversion f.conversion_type (Err WrongType) (Err WrongType) (word_text f word)))
text_taken f word e has =
    let text = word_is_text f word has in
    let goes : by_conversion f.conversion_type (Err WrongType) (Err WrongType) (word_text f word) ≡ word_text f word = ap (λ (v : ConversionType). by_conversion v (Err WrongType) (Err WrongType) (word_text f word)) e in
    told_by _ _ (word_text f word) text.0 goes goes text.1

abbrev taken : Option Source → ConversionSpecifier → List ℕ → Token → Result (List ℕ) PrintfError
taken (Some source) f row token = Ok (token_text (Field source f) row token)
taken None f row token = Err WrongType

decimal_taken : (kind : Kind) (f : ConversionSpecifier) (row : List ℕ) (token : Token) → f.conversion_type ≡ DecInt → HasNumbers f → (printf_meaning kind (datum_at kind row token)).text f ≡ taken (decimal_source kind) f row token
decimal_taken Of.U8 f row token e has = natural_taken f token.number _ _ _ _ (λ d c w. digits_by f.conversion_type d c w e) has
decimal_taken Of.U16 f row token e has = natural_taken f token.number _ _ _ _ (λ d c w. digits_by f.conversion_type d c w e) has
decimal_taken Of.U32 f row token e has = natural_taken f token.number _ _ _ _ (λ d c w. digits_by f.conversion_type d c w e) has
decimal_taken Of.U64 f row token e has = natural_taken f token.number _ _ _ _ (λ d c w. digits_by f.conversion_type d c w e) has
decimal_taken Of.Usize f row token e has = natural_taken f token.number _ _ _ _ (λ d c w. digits_by f.conversion_type d c w e) has
decimal_taken Of.I8 f row token e has = integer_taken f (cast_signed w64 token.number) _ _ _ _ _ _ e has
decimal_taken Of.I16 f row token e has = integer_taken f (cast_signed w64 token.number) _ _ _ _ _ _ e has
decimal_taken Of.I32 f row token e has = integer_taken f (cast_signed w64 token.number) _ _ _ _ _ _ e has
decimal_taken Of.I64 f row token e has = integer_taken f (cast_signed w64 token.number) _ _ _ _ _ _ e has
decimal_taken Of.Isize f row token e has = integer_taken f (cast_signed w64 token.number) _ _ _ _ _ _ e has
decimal_taken Of.Word f row token e has = ap (λ (v : ConversionType). by_conversion v (Err WrongType) (Err WrongType) (word_text f (slice_range row token.start token.end))) e
decimal_taken Of.Char f row token e has = refl

no_word : (conversion : ConversionType) (w : Result (List ℕ) PrintfError) → GoesToDigits conversion → by_conversion conversion (Err WrongType) (Err WrongType) w ≡ Err WrongType
no_word conversion w goes = goes (Err WrongType) (Err WrongType) w

bits_kind_taken : (kind : Kind) (f : ConversionSpecifier) (row : List ℕ) (token : Token) → GoesToBits f.conversion_type → HasNumbers f → (printf_meaning kind (datum_at kind row token)).text f ≡ taken (bits_source kind) f row token
bits_kind_taken Of.U8 f row token goes has = natural_taken f token.number _ _ _ _ goes.0 has
bits_kind_taken Of.U16 f row token goes has = natural_taken f token.number _ _ _ _ goes.0 has
bits_kind_taken Of.U32 f row token goes has = natural_taken f token.number _ _ _ _ goes.0 has
bits_kind_taken Of.U64 f row token goes has = natural_taken f token.number _ _ _ _ goes.0 has
bits_kind_taken Of.Usize f row token goes has = natural_taken f token.number _ _ _ _ goes.0 has
bits_kind_taken Of.I8 f row token goes has = bits_taken f (cast_signed w64 token.number) (cast_unsigned w8 (cast_signed w64 token.number)) _ _ _ _ goes has
bits_kind_taken Of.I16 f row token goes has = bits_taken f (cast_signed w64 token.number) (cast_unsigned w16 (cast_signed w64 token.number)) _ _ _ _ goes has
bits_kind_taken Of.I32 f row token goes has = bits_taken f (cast_signed w64 token.number) (cast_unsigned w32 (cast_signed w64 token.number)) _ _ _ _ goes has
bits_kind_taken Of.I64 f row token goes has = bits_taken f (cast_signed w64 token.number) (cast_unsigned w64 (cast_signed w64 token.number)) _ _ _ _ goes has
bits_kind_taken Of.Isize f row token goes has = bits_taken f (cast_signed w64 token.number) (cast_unsigned w64 (cast_signed w64 token.number)) _ _ _ _ goes has
bits_kind_taken Of.Word f row token goes has = no_word f.conversion_type (word_text f (slice_range row token.start token.end)) goes.0
bits_kind_taken Of.Char f row token goes has = refl

some_source : (found : Option Source) (source : Source) (f : ConversionSpecifier) (row : List ℕ) (token : Token) → found ≡ Some source → taken found f row token ≡ Ok (token_text (Field source f) row token)
some_source found source f row token e = ap (λ (o : Option Source). taken o f row token) e

word_kind_taken : (kind : Kind) (source : Source) (f : ConversionSpecifier) (row : List ℕ) (token : Token) → f.conversion_type ≡ String → HasNumbers f → word_source kind ≡ Some source → (printf_meaning kind (datum_at kind row token)).text f ≡ Ok (token_text (Field source f) row token)
word_kind_taken Of.Word source f row token e has s = text_taken f (slice_range row token.start token.end) e has ∙ some_source (Some Text) source f row token s
word_kind_taken kind source f row token e has s = cc

of_oct : GoesToBits OctInt
of_oct = ((λ d c w. refl), (λ f z complement. refl))

of_lower : GoesToBits HexIntLower
of_lower = ((λ d c w. refl), (λ f z complement. refl))

of_upper : GoesToBits HexIntUpper
of_upper = ((λ d c w. refl), (λ f z complement. refl))

in_bits : (conversion : ConversionType) (kind : Kind) (source : Source) (f : ConversionSpecifier) (row : List ℕ) (token : Token) → f.conversion_type ≡ conversion → GoesToBits conversion → HasNumbers f → bits_source kind ≡ Some source
    → (printf_meaning kind (datum_at kind row token)).text f ≡ Ok (token_text (Field source f) row token)
in_bits conversion kind source f row token e goes has s =
    bits_kind_taken kind f row token (subst GoesToBits (sym e) goes) has ∙ some_source (bits_source kind) source f row token s

field_printed : (conversion : ConversionType) (kind : Kind) (source : Source) (f : ConversionSpecifier) (row : List ℕ) (token : Token) → f.conversion_type ≡ conversion → HasNumbers f → source_of conversion kind ≡ Some source
    → (printf_meaning kind (datum_at kind row token)).text f ≡ Ok (token_text (Field source f) row token)
field_printed DecInt kind source f row token e has s = decimal_taken kind f row token e has ∙ some_source (decimal_source kind) source f row token s
field_printed OctInt kind source f row token e has s = in_bits OctInt kind source f row token e of_oct has s
field_printed HexIntLower kind source f row token e has s = in_bits HexIntLower kind source f row token e of_lower has s
field_printed HexIntUpper kind source f row token e has s = in_bits HexIntUpper kind source f row token e of_upper has s
field_printed String kind source f row token e has s = word_kind_taken kind source f row token e has s
field_printed conversion kind source f row token e has s = cc

-- ---- what a field takes

-- a field whose width and precision are numbers takes one value
one_value : (f : ConversionSpecifier) (w p : NumericParam) (v : Meaning) (values : List Meaning) (a b : ℤ) → w ≡ Literal a → p ≡ Literal b
    → then_with (param_of w (v ∷ values)) (λ width. then_with (param_of p (drop (stars w) (v ∷ values))) (λ precision. value_text (record f { width = width; precision = precision }) (drop (stars p) (drop (stars w) (v ∷ values))))) ≡ v.text (record f { width = w; precision = p })
one_value f w p v values a b e h = rw (e, h) refl

abbrev IsOneValue : ConversionType → ConversionSpecifier → Meaning → List Meaning → Type 0
IsOneValue conversion f v values = (field_by conversion f (v ∷ values) ≡ v.text f) × (wanted_by conversion f ≡ 1)

field_takes : (conversion : ConversionType) (kind : Kind) (source : Source) (f : ConversionSpecifier) (v : Meaning) (values : List Meaning) (a b : ℤ) → source_of conversion kind ≡ Some source → f.width ≡ Literal a → f.precision ≡ Literal b → IsOneValue conversion f v values
field_takes DecInt kind source f v values a b s e h = (one_value f f.width f.precision v values a b e h, rw (e, h) refl)
field_takes OctInt kind source f v values a b s e h = (one_value f f.width f.precision v values a b e h, rw (e, h) refl)
field_takes HexIntLower kind source f v values a b s e h = (one_value f f.width f.precision v values a b e h, rw (e, h) refl)
field_takes HexIntUpper kind source f v values a b s e h = (one_value f f.width f.precision v values a b e h, rw (e, h) refl)
field_takes String kind source f v values a b s e h = (one_value f f.width f.precision v values a b e h, rw (e, h) refl)
field_takes conversion kind source f v values a b s e h = cc

plain_takes : (form : Form) (f : ConversionSpecifier) (v : Meaning) (values : List Meaning) → IsPlain form f → (field_text f (v ∷ values) ≡ v.text f) × (wanted f ≡ 1)
plain_takes Number f v values p = field_takes f.conversion_type Of.U8 Natural f v values (pos 0) p.precision.0 (ap (λ (c : ConversionType). source_of c Of.U8) p.conversion) p.width p.precision.1
plain_takes Signed f v values p = field_takes f.conversion_type Of.U8 Natural f v values (pos 0) p.precision.0 (ap (λ (c : ConversionType). source_of c Of.U8) p.conversion) p.width p.precision.1
plain_takes Copied f v values p = field_takes f.conversion_type Of.Word Text f v values (pos 0) (pos 2147483647) (ap (λ (c : ConversionType). source_of c Of.Word) p.conversion) p.width p.precision
plain_takes WithoutPlus f v values p = absurd p
plain_takes (Field source g) f v values p = absurd p

-- ---- forms

pub plain_form_under : (f : ConversionSpecifier) (kind : Kind) (form : Form) → form_of kind ≡ Some form → IsPlain form f → IsFormUnder f kind form
plain_form_under f kind form e p = record {
  takes = λ v values. plain_takes form f v values p;
  prints = λ row token is. token_printed kind form f row token e p is;
}

pub field_form_under : (f : ConversionSpecifier) (kind : Kind) (source : Source) → source_of f.conversion_type kind ≡ Some source → HasNumbers f → IsFormUnder f kind (Field source f)
field_form_under f kind source s has = record {
  takes = λ v values. field_takes f.conversion_type kind source f v values has.width.0 has.precision.0 s has.width.1 has.precision.1;
  prints = λ row token is. field_printed f.conversion_type kind source f row token refl has s;
}

onto-onto : (a b : List ℕ) (r : Result (List ℕ) PrintfError) → onto a (onto b r) ≡ onto (a ++ b) r
onto-onto a b (Ok t) = ap (λ (x : List ℕ). Ok x) (sym (append_assoc a b t))
onto-onto a b (Err e) = refl

-- a field prints its value, and the rest prints the other values
printed_field : (f : ConversionSpecifier) (rest : List FormatElement) (v : Meaning) (values : List Meaning) (text : List ℕ) → TakesOne f → v.text f ≡ Ok text → printed (Format f ∷ rest) (v ∷ values) ≡ onto text (printed rest values)
printed_field f rest v values text takes e =
    let t = takes v values in
    rw (t.0, e, t.1) refl

pub text_moves : (kinds : List Kind) (old new : Parts) (rest : List FormatElement) (place : ℕ) (e : FormatElement) (text : List ℕ)
    → ((values : List Meaning) → printed (e ∷ rest) values ≡ onto text (printed rest values)) → Grows old new (λ row tokens. text) → Moves kinds old (e ∷ rest) place new rest place
text_moves kinds old new rest place e text step grows row tokens are =
    let values : List Meaning = drop place (meanings kinds row tokens) in
    ap (onto (layout_text old row tokens)) (step values)
    ∙ onto-onto (layout_text old row tokens) text (printed rest values)
    ∙ ap (λ (t : List ℕ). onto t (printed rest values)) (sym (grows row tokens))

percent_printed : (f : ConversionSpecifier) (rest : List FormatElement) (values : List Meaning) (conversion : ConversionType) → f.conversion_type ≡ PercentSign → printed (Format f ∷ rest) values ≡ onto (codes "%") (printed rest values)
percent_printed f rest values conversion e = rw e refl

pub percent_moves : (kinds : List Kind) (old new : Parts) (rest : List FormatElement) (place : ℕ) (f : ConversionSpecifier) → f.conversion_type ≡ PercentSign → Grows old new (λ row tokens. codes "%") → Moves kinds old (Format f ∷ rest) place new rest place
percent_moves kinds old new rest place f e grows = text_moves kinds old new rest place (Format f) (codes "%") (λ values. percent_printed f rest values f.conversion_type e) grows

pub value_moves : (kinds : List Kind) (old new : Parts) (rest : List FormatElement) (place : ℕ) (f : ConversionSpecifier) (form : Form) → HasFormUnder f kinds place form → Grows old new (λ row tokens. text_where form row (slice_get tokens place)) → Moves kinds old (Format f ∷ rest) place new rest (place + 1)
value_moves kinds old new rest place f form has grows row tokens are =
    let h = here printf_meaning kinds row tokens place has.0 are has.1 in
    let all : List Meaning = meanings kinds row tokens in
    let v : Meaning = printf_meaning has.0 (datum_at has.0 row h.token) in
    let text : List ℕ = token_text form row h.token in
    let step : printed (Format f ∷ rest) (drop place all) ≡ onto text (printed rest (drop (suc place) all)) =
    ap (printed (Format f ∷ rest)) h.from ∙ printed_field f rest v (drop (suc place) all) text has.2.takes (has.2.prints row h.token h.is) in
    let grown : layout_text new row tokens ≡ layout_text old row tokens ++ text = grows row tokens ∙ ap (λ (o : Option Token). layout_text old row tokens ++ text_where form row o) h.at in
    ap (onto (layout_text old row tokens)) step
    ∙ onto-onto (layout_text old row tokens) text (printed rest (drop (suc place) all))
    ∙ ap (λ (t : List ℕ). onto t (printed rest (drop (suc place) all))) (sym grown)
    ∙ ap (λ (n : ℕ). onto (layout_text new row tokens) (printed rest (drop n all))) (sym (add-one place))

-- ---- the whole

onto-nil : (r : Result (List ℕ) PrintfError) → onto [] r ≡ r
onto-nil (Ok t) = refl
onto-nil (Err e) = refl

pub start : (kinds : List Kind) (elements : List FormatElement) (layout : Parts) (row : List ℕ) (tokens : List Token) → layout_text layout row tokens ≡ [] → printed elements (meanings kinds row tokens) ≡ printed_behind layout elements 0 kinds row tokens
start kinds elements layout row tokens e = sym (ap (λ (t : List ℕ). onto t (printed elements (meanings kinds row tokens))) e ∙ onto-nil (printed elements (meanings kinds row tokens)))

pub finish : (kinds : List Kind) (layout : Parts) (place : ℕ) (row : List ℕ) (tokens : List Token) → place ≡ length kinds → printed_behind layout [] place kinds row tokens ≡ Ok (layout_text layout row tokens)
finish kinds layout place row tokens e =
    ap (λ (n : ℕ). onto (layout_text layout row tokens) (printed [] (drop n (meanings kinds row tokens)))) e
    ∙ ap (λ (ms : List Meaning). onto (layout_text layout row tokens) (printed [] ms)) (none_left printf_meaning kinds row tokens)
    ∙ ap (λ (t : List ℕ). Ok t) (append-nil (layout_text layout row tokens))
