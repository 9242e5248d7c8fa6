-- What patterns of strfmt that are a key alone print.
use Rattle.std.proofs.Common.{◌≡◌, ◌≢◌, ℕ, suc, ◌+◌, ◌-◌, ◌<◌, ◌≤◌, ◌^◌, ◌==◌, ℤ, pos, negsuc, Bool, true, false, not, cond, if◌then◌else◌, List, [], ◌∷◌, ◌++◌, length, map, take, drop, slice_get, Option, Some, None, Ok, Err, refl, sym, ap, subst, ◌∙◌, w8, w16, w32, w64, Fits, FitsSigned, encode_utf8, encode_utf8_all, chars, codes, arith, append-nil, append_assoc}
use Rattle.std.specs.Fmt.{decimal, signed_decimal}
use Rattle.std.specs.Int.{Width, is_negative, cast_signed}
use Rattle.std.specs.List.{position_or_len}
use Rattle.std.specs.Prelude.{option_and_then, slice_index, slice_range}
use Rattle.std.specs.Str.{IsUtf8}
use Rattle.std.proofs.Math.Facts.{Fits-nat_abs, sfits_widen}
use Rattle.std.proofs.Math.Seq.{take-length}
use Rattle.std.proofs.lemmas.Bool.Decides.{nat_tests}
use Rattle.std.proofs.lemmas.Fmt.{IsAscii-decimal}
use Rattle.std.proofs.lemmas.List.{drop_all}
use Rattle.std.proofs.lemmas.Str.{IsUtf8-from_ascii, encodes-chars}
use Rattle.itoa.proofs.Decimal.{IsAscii-signed_decimal}
use Rattle.numerals.specs.Numeral.{numeral}
use Rattle.numerals.proofs.Unique.{numeral-decimal}
use Rattle.formatx.specs.Values.{decimal_of}
use Rattle.strfmt.specs.Fault.{Outcome}
use Rattle.strfmt.specs.Field.{Integer, integer_field, text_field, unsigned, signed, digits_of, laid, sides}
use Rattle.strfmt.specs.Inner.Cutting.{IsPlainFront}
use Rattle.strfmt.specs.Grammar.Parts.{Parts as SpecParts, IsWritten, HasNoFill, IsFlag, IsNumber, alignment_of}
use Rattle.strfmt.specs.Grammar.Pattern.{IsRead, key_of, specification_of, read_as}
use Rattle.strfmt.specs.Grammar.{Piece, ordinary, escape, pattern, IsBrace, HasNoBrace, IsCut}
use Rattle.strfmt.specs.Spec.{Spec, View}
use Rattle.strfmt.specs.Text.{Meaning, filled_by, joined, then_next}
use Rattle.strfmt.specs.declared.cause.Cause.TheVariants.{NoKey}
use Rattle.strfmt.specs.declared.types.Alignment.{Alignment}
use Rattle.strfmt.specs.declared.types.Alignment.TheVariants.{Unspecified, Left, Right}
use Rattle.strfmt.specs.declared.types.Sign.TheVariants.{Unspecified as NoSign}
use Rattle.strfmt.proofs.CutLemmas.{cut_plain}
use Rattle.printer.specs.Keys.{IsPlaceAtKey}
use Rattle.printer.specs.Text.{value_at_key}
use Rattle.printer.proofs.KeyLemmas.{found}
use Rattle.printer.specs.declared.dialect.Dialect.TheVariants.{Strfmt}
use Rattle.values.specs.declared.kind.Kind.{Kind}
use Rattle.values.specs.declared.kind.Kind.TheVariants as Of
use Rattle.values.specs.Datum.{Datum, each_of}
use Rattle.values.specs.Templates.{strfmt_meaning}
use Rattle.tokens.specs.declared.Token.{Token}
use Rattle.tokens.specs.Tokens.{IsToken, datum_at, data_of}
use Rattle.pieces.specs.declared.layout.Form.{Form}
use Rattle.pieces.specs.Inner.Layout.{Parts, Grows, form_of, layout_text, text_where, token_text}
use Rattle.pieces.specs.Inner.Sound.{HasForm, StandsFor}
use Rattle.pieces.specs.Inner.Strfmt.{BeginsWithKey, GoesOn, HasNoMark, IsInPart, Moves, meanings}
use Rattle.pieces.proofs.ValueLemmas.{here}

-- ---- one text after the other

next-next : (a b : List ℕ) (r : Outcome) → then_next (Ok a) (then_next (Ok b) r) ≡ then_next (Ok (a ++ b)) r
next-next a b (Ok t) = ap (λ (x : List ℕ). Ok x) (sym (append_assoc a b t))
next-next a b (Err e) = refl

next-nil : (r : Outcome) → then_next (Ok []) r ≡ r
next-nil (Ok t) = refl
next-nil (Err e) = refl

joined_plain : (m : List ℕ → Option Meaning) (front : List ℕ) (pieces : List Piece) → joined m (map ordinary front ++ pieces) None ≡ then_next (Ok front) (joined m pieces None)
joined_plain m [] pieces = sym (next-nil (joined m pieces None))
joined_plain m (b ∷ bs) pieces = ap (then_next (Ok (b ∷ []))) (joined_plain m bs pieces) ∙ next-next (b ∷ []) bs (joined m pieces None)

-- pieces that print a text, by which the layout grows
goes_on : (names : List (List ℕ)) (kinds : List Kind) (old new : Parts) (text rest : List ℕ) (row : List ℕ) (tokens : List Token) (pieces before : List Piece) (t : List ℕ) → IsCut before None text
    → joined (meanings names kinds row tokens) before None ≡ then_next (Ok t) (joined (meanings names kinds row tokens) pieces None) → layout_text new row tokens ≡ layout_text old row tokens ++ t → GoesOn names kinds old text new rest row tokens pieces
goes_on names kinds old new text rest row tokens pieces before t cut e grown =
    let behind : Outcome = joined (meanings names kinds row tokens) pieces None in (
      before,
      cut,
      ap (then_next (Ok (layout_text old row tokens))) e
          ∙ next-next (layout_text old row tokens) t behind
          ∙ ap (λ (x : List ℕ). then_next (Ok x) behind) (sym grown),
    )

pub plain_moves : (names : List (List ℕ)) (kinds : List Kind) (old new : Parts) (text front rest : List ℕ) → IsPlainFront text front rest → Grows old new (λ row tokens. front) → Moves names kinds old text new rest
plain_moves names kinds old new text front rest p grows row tokens pieces are cut =
    goes_on names kinds old new text rest row tokens pieces (map ordinary front ++ pieces) front (cut_plain text front rest pieces None p.plain p.whole cut) (joined_plain (meanings names kinds row tokens) front pieces) (grows row tokens)

pub escape_moves : (names : List (List ℕ)) (kinds : List Kind) (old new : Parts) (text rest : List ℕ) (b : ℕ) → IsBrace b → text ≡ b ∷ b ∷ rest → Grows old new (λ row tokens. b ∷ []) → Moves names kinds old text new rest
escape_moves names kinds old new text rest b brace e grows row tokens pieces are cut =
    goes_on names kinds old new text rest row tokens pieces (escape b ∷ pieces) (b ∷ []) (rest, (brace, e), cut) refl (grows row tokens)

not_true : (b : Bool) → (b ≡ true → ⊥) → b ≡ false
not_true true h = absurd (h refl)
not_true false h = refl

-- ---- a key without a specification

no_brace : (bs : List ℕ) → HasNoMark bs → HasNoBrace bs
no_brace [] h = tt
no_brace (b ∷ bs) h = ((h.0, h.1), no_brace bs h.3)

no_colon : (bs : List ℕ) → HasNoMark bs → position_or_len (λ (b : ℕ). b == 58) bs ≡ length bs
no_colon [] h = refl
no_colon (b ∷ bs) h =
    let other : (b == 58) ≡ false = not_true (b == 58) (λ e. h.2 (same b e)) in
    ap (λ (t : Bool). cond (not t) (1 + position_or_len (λ (x : ℕ). x == 58) bs) 0) other
    ∙ (let e : 1 + position_or_len (λ (x : ℕ). x == 58) bs ≡ suc (length bs) = omega (arith, no_colon bs h.3) in e)
  where
    same : (b : ℕ) → (b == 58) ≡ true → b ≡ 58
    same b e = grind (arith, nat_tests)

key_is : (bs : List ℕ) → HasNoMark bs → key_of bs ≡ bs
key_is bs h = ap (λ (n : ℕ). take n bs) (no_colon bs h) ∙ take-length bs

specification_is : (bs : List ℕ) → HasNoMark bs → specification_of bs ≡ []
specification_is bs h = ap (λ (n : ℕ). drop (n + 1) bs) (no_colon bs h) ∙ drop_all (length bs + 1) bs (omega arith)

-- ---- a pattern without a specification

abbrev no_parts : SpecParts
no_parts = record { fill = None; align = None; sign = None; alternate = false; zero = false; width = None; thousands = false; dot = false; precision = None; left = [] }

abbrev bare : Spec
bare = record { fill = 32; align = Unspecified; sign = NoSign; alternate = false; width = None; thousands = false; precision = None; ty = None }

abbrev bare_view : List ℕ → List ℕ → View
bare_view key inner = record { key = key; pattern = inner; spec = bare; text = [] }

nothing_behind : (xs behind : List ℕ) → [] ≡ xs ++ behind → behind ≡ []
nothing_behind [] behind e = sym e
nothing_behind (x ∷ xs) behind e = cc

no_fill : HasNoFill []
no_fill c behind e = let none : behind ≡ [] = nothing_behind (encode_utf8 c) behind e in ap (λ (t : List ℕ). alignment_of (slice_index t 0)) none

not_in_front : (b : ℕ) → 0 < b → IsFlag b [] false []
not_in_front b h = (let n : 0 ≢ b = omega arith in n, refl)

no_number : IsNumber [] None []
no_number = ([], refl, refl, refl, refl)

nothing_written : IsWritten [] no_parts
nothing_written = ([], [], [], [], [], [], [], (no_fill, (refl, refl)), (refl, refl), not_in_front 35 (omega arith), not_in_front 48 (omega arith), no_number, not_in_front 44 (omega arith), not_in_front 46 (omega arith), (refl, refl))

some_key : (bs : List ℕ) → 0 < length bs → (length bs == 0) ≡ false
some_key bs h = grind (arith, nat_tests)

read_bare : (inner : List ℕ) → key_of inner ≡ inner → specification_of inner ≡ [] → 0 < length inner → IsRead inner (Ok (bare_view inner inner))
read_bare inner key specification some = (
  no_parts,
  subst (λ (t : List ℕ). IsWritten t no_parts) (sym specification) nothing_written,
  ap (λ (k : List ℕ). Ok (bare_view k inner)) (sym key)
      ∙ sym (ap (λ (b : Bool). read_as inner bare (if b then Some NoKey else None)) (some_key (key_of inner) (rw key some))),
)

-- ---- the value of a key

few_values : {A : Type 0} (meaning : Kind → Datum → A) (kinds : List Kind) (values : List Datum) → length (each_of meaning kinds values) ≤ length kinds
few_values meaning [] values = omega arith
few_values meaning (k ∷ kinds) [] = omega arith
few_values meaning (k ∷ kinds) (v ∷ values) = let rest : length (each_of meaning kinds values) ≤ length kinds = few_values meaning kinds values in omega (arith, rest)

key_value : {A : Type 0} (names : List (List ℕ)) (values : List A) (key : List ℕ) (place : ℕ) → IsPlaceAtKey names key (Some place) → length values ≤ 2 ^ 64 → value_at_key 0 names values key ≡ slice_get values place
key_value names values key place at short = found names values key at.0 at.1 short ∙ ap (λ o. option_and_then (λ i. slice_get values i) o) (sym at.2)

-- ---- tokens

laid_bare : (align : Alignment) (cs : List ℕ) (n : ℕ) → laid [] (sides align (0 - n)) 32 cs ≡ Ok (encode_utf8_all cs)
laid_bare align cs n =
    let none : 0 - n ≡ 0 = omega arith in
    ap (λ (k : ℕ). laid [] (sides align k) 32 cs) none ∙ ap (λ (t : List ℕ). Ok t) (append-nil (encode_utf8_all cs))

text_bare : (text : List ℕ) → IsUtf8 text → text_field bare text ≡ Ok text
text_bare text u = laid_bare Left (chars text) (length (chars text)) ∙ ap (λ (t : List ℕ). Ok t) (encodes-chars text u)

integer_bare : (it : Integer) (text : List ℕ) → digits_of None it ≡ text → IsUtf8 text → integer_field bare it ≡ Ok text
integer_bare it text e u =
    laid_bare Right (chars (digits_of None it)) (length (chars (digits_of None it)))
    ∙ ap (λ (t : List ℕ). Ok (encode_utf8_all (chars t))) e
    ∙ ap (λ (t : List ℕ). Ok t) (encodes-chars text u)

not_below : (n : ℕ) → is_negative (pos n) ≡ false
not_below n = grind (arith, nat_tests)

signed_digits : (w : Width) (z : ℤ) → digits_of None (signed w z) ≡ decimal_of z
signed_digits w (pos n) = ap (λ (b : Bool). (if b then codes "-" else []) ++ numeral 10 false n) (not_below n)
signed_digits w (negsuc n) = refl

-- std writes the same
decimal_is : (z : ℤ) → FitsSigned w64 z → decimal_of z ≡ signed_decimal z
decimal_is (pos n) fits = let fit : Fits w64 n = Fits-nat_abs {w = w64} {w' = w64} {z = pos n} tt fits in numeral-decimal n (omega (arith, fit))
decimal_is (negsuc n) fits = let fit : Fits w64 (suc n) = Fits-nat_abs {w = w64} {w' = w64} {z = negsuc n} tt fits in ap (λ (t : List ℕ). 45 ∷ t) (numeral-decimal (suc n) (omega (arith, fit)))

natural_utf8 : (n : ℕ) → n < 2 ^ 64 → IsUtf8 (numeral 10 false n)
natural_utf8 n h = subst IsUtf8 (sym (numeral-decimal n h)) (IsUtf8-from_ascii (decimal n) (IsAscii-decimal n h))

signed_utf8 : (z : ℤ) → FitsSigned w64 z → IsUtf8 (decimal_of z)
signed_utf8 z fits = subst IsUtf8 (sym (decimal_is z fits)) (IsUtf8-from_ascii (signed_decimal z) (IsAscii-signed_decimal z fits))

abbrev told : Option Form → List ℕ → Token → List ℕ
told (Some form) row token = token_text form row token
told None row token = []

token_told : (kind : Kind) (row : List ℕ) (token : Token) → IsToken kind row token → strfmt_meaning kind (datum_at kind row token) bare ≡ Ok (told (form_of kind) row token)
token_told Of.U8 row token is = integer_bare (unsigned token.number) _ refl (natural_utf8 token.number (omega (arith, is.value)))
token_told Of.U16 row token is = integer_bare (unsigned token.number) _ refl (natural_utf8 token.number (omega (arith, is.value)))
token_told Of.U32 row token is = integer_bare (unsigned token.number) _ refl (natural_utf8 token.number (omega (arith, is.value)))
token_told Of.U64 row token is = integer_bare (unsigned token.number) _ refl (natural_utf8 token.number is.value)
token_told Of.Usize row token is = integer_bare (unsigned token.number) _ refl (natural_utf8 token.number is.value)
token_told Of.I8 row token is = let z : ℤ = cast_signed w64 token.number in integer_bare (signed w8 z) (decimal_of z) (signed_digits w8 z) (signed_utf8 z (sfits_widen {w = w8} {w' = w64} {z = z} tt is.value))
token_told Of.I16 row token is = let z : ℤ = cast_signed w64 token.number in integer_bare (signed w16 z) (decimal_of z) (signed_digits w16 z) (signed_utf8 z (sfits_widen {w = w16} {w' = w64} {z = z} tt is.value))
token_told Of.I32 row token is = let z : ℤ = cast_signed w64 token.number in integer_bare (signed w32 z) (decimal_of z) (signed_digits w32 z) (signed_utf8 z (sfits_widen {w = w32} {w' = w64} {z = z} tt is.value))
token_told Of.I64 row token is = let z : ℤ = cast_signed w64 token.number in integer_bare (signed w64 z) (decimal_of z) (signed_digits w64 z) (signed_utf8 z is.value)
token_told Of.Isize row token is = let z : ℤ = cast_signed w64 token.number in integer_bare (signed w64 z) (decimal_of z) (signed_digits w64 z) (signed_utf8 z is.value)
token_told Of.Word row token is = text_bare (slice_range row token.start token.end) is.value
token_told Of.Char row token is = absurd is.value

-- ---- a pattern

pub pattern_moves : (names : List (List ℕ)) (kinds : List Kind) (old new : Parts) (text rest : List ℕ) (place : ℕ) (form : Form) → length kinds ≤ 2 ^ 64 → BeginsWithKey names place text rest → HasForm kinds place form → Grows old new (λ row tokens. text_where form row (slice_get tokens place)) → Moves names kinds old (123 ∷ text) new rest
pattern_moves names kinds old new text rest place form short begins has grows row tokens pieces are cut =
    let inner : List ℕ = begins.key in
    let h = here strfmt_meaning kinds row tokens place has.0 are has.1 in
    let values : List Meaning = each_of strfmt_meaning kinds (data_of kinds row tokens) in
    let few : length values ≤ length kinds = few_values strfmt_meaning kinds (data_of kinds row tokens) in
    let m : Meaning = strfmt_meaning has.0 (datum_at has.0 row h.token) in
    let t : List ℕ = token_text form row h.token in
    let view : View = bare_view inner inner in
    let read : IsRead inner (Ok view) = read_bare inner (key_is inner begins.plain) (specification_is inner begins.plain) begins.some in
    let valued : value_at_key 0 names values inner ≡ Some m = key_value names values inner place begins.at (omega (arith, few, short)) ∙ h.value in
    let filled : filled_by (value_at_key 0 names values inner) view ≡ Ok t =
    ap (λ (o : Option Meaning). filled_by o view) valued ∙ token_told has.0 row h.token h.is ∙ ap (λ (o : Option Form). Ok (told o row h.token)) has.2 in
    let grown : layout_text new row tokens ≡ layout_text old row tokens ++ t = grows row tokens ∙ ap (λ (o : Option Token). layout_text old row tokens ++ text_where form row o) h.at in
    goes_on names kinds old new (123 ∷ text) rest row tokens pieces (pattern view ∷ pieces) t
    (rest, (inner, (no_brace inner begins.plain, ap (λ (x : List ℕ). 123 ∷ x) begins.whole), read), cut)
    (ap (λ (o : Outcome). then_next o (joined (meanings names kinds row tokens) pieces None)) filled) grown

-- ---- the whole

pub start : (names : List (List ℕ)) (kinds : List Kind) (template : List ℕ) (layout : Parts) → ((row : List ℕ) (tokens : List Token) → layout_text layout row tokens ≡ []) → IsInPart names kinds template layout template
start names kinds template layout empty row tokens pieces are cut =
    let all : Outcome = joined (meanings names kinds row tokens) pieces None in
    (pieces, cut, sym (ap (λ (t : List ℕ). then_next (Ok t) all) (empty row tokens) ∙ next-nil all))

pub further : (names : List (List ℕ)) (kinds : List Kind) (template : List ℕ) (old new : Parts) (text rest : List ℕ) → IsInPart names kinds template old text → Moves names kinds old text new rest → IsInPart names kinds template new rest
further names kinds template old new text rest before moves row tokens pieces are cut =
    let step = moves row tokens pieces are cut in
    let whole = before row tokens step.0 are step.1 in
    (whole.0, whole.1, whole.2 ∙ step.2)

pub finish : (names : List (List ℕ)) (kinds : List Kind) (template : List ℕ) (layout : Parts) (rest : List ℕ) → rest ≡ [] → IsInPart names kinds template layout rest → StandsFor Strfmt template names kinds layout
finish names kinds template layout rest e done row tokens are =
    let whole = done row tokens [] are e in
    (Ok (layout_text layout row tokens), (whole.0, None, whole.1, ap (λ (t : List ℕ). Ok t) (sym (append-nil (layout_text layout row tokens))) ∙ sym whole.2), refl)
