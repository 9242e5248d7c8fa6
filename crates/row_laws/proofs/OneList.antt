-- Tokens read to at most one list of values.
use Rattle.std.proofs.Common.{◌≡◌, ℕ, ℤ, List, [], ◌∷◌, sym, ap, refl, ◌∙◌}
use Rattle.std.specs.Prelude.{FitsSigned}
use Rattle.std.specs.Int.{Width, w8, w16, w32, w64, cast_unsigned, cast_signed}
use Rattle.std.specs.Str.{chars, IsUtf8}
use Rattle.std.proofs.Math.Utf8.{encodes}
use Rattle.std.proofs.lemmas.Int.{to_z-of_z}
use Rattle.std.proofs.lemmas.Str.{encodes-chars}
use Rattle.sprintf.specs.declared.parser.ConversionType.{ConversionType}
use Rattle.sprintf.specs.declared.parser.ConversionType.TheVariants.{DecInt, OctInt, HexIntLower, HexIntUpper, Char as CharConversion, String as StringConversion}
use Rattle.values.specs.declared.kind.Kind.{Kind}
use Rattle.values.specs.declared.kind.Kind.TheVariants.{U8, U16, U32, U64, Usize, I8, I16, I32, I64, Isize, Word}
use Rattle.values.specs.Datum.{Datum, natural, integer, word, character, IsOfKind}
use Rattle.row_format.specs.Laws.{ReadsToOneList}
use Rattle.row_format.specs.Plannable.{by_bits}
use Rattle.row_format.specs.Row.{StandsFor, ReadsDecimal, IsTextOf, Reads}

-- At one width two's complement is injective.
same_signed : (w : Width) (y z : ℤ) → FitsSigned w y → FitsSigned w z → cast_unsigned w y ≡ cast_unsigned w z → y ≡ z
same_signed w y z p q e = sym (to_z-of_z w y p) ∙ ap (cast_signed w) e ∙ to_z-of_z w z q

signed_fits : (kind : Kind) (z : ℤ) → IsOfKind kind (integer z) → FitsSigned (by_bits w8 w16 w32 w64 kind) z
signed_fits I8 z h = h
signed_fits I16 z h = h
signed_fits I32 z h = h
signed_fits I64 z h = h
signed_fits Isize z h = h
signed_fits kind z h = absurd h

word_utf8 : (kind : Kind) (text : List ℕ) → IsOfKind kind (word text) → IsUtf8 text
word_utf8 Word text h = h
word_utf8 kind text h = absurd h

same_word : (s t token : List ℕ) → IsUtf8 s → IsUtf8 t → chars s ≡ token → chars t ≡ token → s ≡ t
same_word s t token h k d e = sym (encodes-chars s h) ∙ ap encodes (d ∙ sym e) ∙ encodes-chars t k

-- Numbers without a sign, with one, words and characters are of different kinds.
natural_integer : (kind : Kind) (n : ℕ) (z : ℤ) → IsOfKind kind (natural n) → IsOfKind kind (integer z) → ⊥
natural_integer U8 n z h k = k
natural_integer U16 n z h k = k
natural_integer U32 n z h k = k
natural_integer U64 n z h k = k
natural_integer Usize n z h k = k
natural_integer kind n z h k = h

word_character : (kind : Kind) (text : List ℕ) (c : ℕ) → IsOfKind kind (word text) → IsOfKind kind (character c) → ⊥
word_character Word text c h k = k
word_character kind text c h k = h

stands_one : (base : ℕ) (kind : Kind) (token : List ℕ) (x y : Datum) → IsOfKind kind x → IsOfKind kind y → StandsFor base kind token x → StandsFor base kind token y → x ≡ y
stands_one base kind token (natural m) (natural n) h k a b = ap natural (sym a.1 ∙ b.1)
stands_one base kind token (integer m) (integer n) h k a b = ap integer (same_signed (by_bits w8 w16 w32 w64 kind) m n (signed_fits kind m h) (signed_fits kind n k) (sym a.1 ∙ b.1))
stands_one base kind token (natural m) (integer n) h k a b = absurd (natural_integer kind m n h k)
stands_one base kind token (integer m) (natural n) h k a b = absurd (natural_integer kind n m k h)
stands_one base kind token (natural m) y h k a b = absurd b
stands_one base kind token (integer m) y h k a b = absurd b
stands_one base kind token x y h k a b = absurd a

decimal_one : (kind : Kind) (token : List ℕ) (x y : Datum) → IsOfKind kind x → IsOfKind kind y → ReadsDecimal kind token x → ReadsDecimal kind token y → x ≡ y
decimal_one kind token (natural m) (natural n) h k a b = ap natural (a.1 ∙ sym b.1)
decimal_one kind token (integer m) (integer n) h k a b = ap integer (a.1 ∙ sym b.1)
decimal_one kind token (natural m) (integer n) h k a b = absurd (natural_integer kind m n h k)
decimal_one kind token (integer m) (natural n) h k a b = absurd (natural_integer kind n m k h)
decimal_one kind token (natural m) y h k a b = absurd b
decimal_one kind token (integer m) y h k a b = absurd b
decimal_one kind token x y h k a b = absurd a

text_one : (kind : Kind) (token : List ℕ) (x y : Datum) → IsOfKind kind x → IsOfKind kind y → IsTextOf token x → IsTextOf token y → x ≡ y
text_one kind token (word s) (word t) h k a b = ap word (same_word s t token (word_utf8 kind s h) (word_utf8 kind t k) a.1 b.1)
text_one kind token (character c) (character d) h k a b = let same : c ∷ [] ≡ d ∷ [] = sym a ∙ b in let heads : c ≡ d = cc in ap character heads
text_one kind token (word s) (character d) h k a b = absurd (word_character kind s d h k)
text_one kind token (character c) (word t) h k a b = absurd (word_character kind t c k h)
text_one kind token (word s) y h k a b = absurd b
text_one kind token (character c) y h k a b = absurd b
text_one kind token x y h k a b = absurd a

reads_one : (v : ConversionType) (kind : Kind) (token : List ℕ) (x y : Datum) → IsOfKind kind x → IsOfKind kind y → Reads v kind token x → Reads v kind token y → x ≡ y
reads_one DecInt kind token x y h k a b = decimal_one kind token x y h k a b
reads_one OctInt kind token x y h k a b = stands_one 8 kind token x y h k a b
reads_one HexIntLower kind token x y h k a b = stands_one 16 kind token x y h k a b
reads_one HexIntUpper kind token x y h k a b = stands_one 16 kind token x y h k a b
reads_one StringConversion kind token x y h k a b = text_one kind token x y h k a b
reads_one CharConversion kind token x y h k a b = text_one kind token x y h k a b
reads_one v kind token x y h k a b = absurd a

-- Tokens read to at most one list of values.
pub reads_to_one_list : ReadsToOneList
reads_to_one_list [] [] [] [] [] x y = refl
reads_to_one_list (c ∷ cs) (kind ∷ kinds) (token ∷ tokens) (a ∷ as_) (b ∷ bs) x y =
    let head : a ≡ b = reads_one c.field.conversion_type kind token a b x.0 y.0 x.1 y.1 in
    let tail : as_ ≡ bs = reads_to_one_list cs kinds tokens as_ bs x.2 y.2 in
    cc
reads_to_one_list [] [] [] [] (b ∷ bs) x y = absurd y
reads_to_one_list (c ∷ cs) (kind ∷ kinds) (token ∷ tokens) (a ∷ as_) [] x y = absurd y
reads_to_one_list cs kinds tokens a b x y = absurd x
