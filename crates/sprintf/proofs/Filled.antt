-- A field has at least its width.
use Rattle.std.proofs.Common.{◌≡◌, ℕ, zero, suc, ◌+◌, ◌-◌, ◌≤◌, Bool, true, false, cond, ℤ, pos, negsuc, List, [], ◌++◌, length, nat_lt, Option, Some, None, Result, Ok, Err, encode_utf8, unsigned_abs, subst, refl, arith, length-append}
use Rattle.std.specs.Int.{Width, w8, w16, w32, w64, cast_unsigned}
use Rattle.std.proofs.Math.Utf8.{scalar}
use Rattle.std.proofs.lemmas.Str.{length-encode}
use Rattle.padding.specs.Field.{fills}
use Rattle.sprintf.specs.declared.PrintfError.{PrintfError}
use Rattle.sprintf.specs.declared.PrintfError.TheVariants.{WrongType}
use Rattle.sprintf.specs.declared.arg.Arg.{Arg}
use Rattle.sprintf.specs.declared.arg.Arg.TheVariants.{U8, U16, U32, U64, Usize, I8, I16, I32, I64, Isize, Char, Str}
use Rattle.sprintf.specs.declared.parser.ConversionSpecifier.{ConversionSpecifier}
use Rattle.sprintf.specs.declared.parser.ConversionType.{ConversionType}
use Rattle.sprintf.specs.declared.parser.ConversionType.TheVariants.{DecInt, OctInt, HexIntLower, HexIntUpper, Char as CharConversion, String as StringConversion}
use Rattle.sprintf.specs.declared.parser.NumericParam.TheVariants.{Literal}
use Rattle.sprintf.specs.Field.{filled_number, filled_word, number_of, with_number, number_text, unsigned_text, signed_text, character_text, word_text, prefix_of, digits_of, sign_of, cut_to}
use Rattle.sprintf.specs.Meaning.{by_conversion}
use Rattle.sprintf.specs.Values.{arg_meaning, character_where, signed_character}
use Rattle.sprintf.specs.Laws.{FillsItsWidth}

ok_is : {a b : List ℕ} → ◌≡◌ {A = Result (List ℕ) PrintfError} (Ok a) (Ok b) → a ≡ b
ok_is e = cc

-- one character of one byte, so many times
length-fills : (count c : ℕ) → length (encode_utf8 c) ≡ 1 → length (fills count c) ≡ count
length-fills zero c e = refl
length-fills (suc count) c e = omega (arith, length-append (encode_utf8 c) (fills count c), e, length-fills count c e)

three_len : (a b c : List ℕ) → length (a ++ b ++ c) ≡ length a + length b + length c
three_len a b c = omega (arith, length-append (a ++ b) c, length-append a b)

number_by : (left zero_pad : Bool) (room : ℕ) (lead digits : List ℕ) → length (cond left (lead ++ digits ++ fills room 32) (cond zero_pad (lead ++ fills room 48 ++ digits) (fills room 32 ++ lead ++ digits))) ≡ length lead + length digits + room
number_by true z room lead digits = omega (arith, three_len lead digits (fills room 32), length-fills room 32 (length-encode 32))
number_by false true room lead digits = omega (arith, three_len lead (fills room 48) digits, length-fills room 48 (length-encode 48))
number_by false false room lead digits = omega (arith, three_len (fills room 32) lead digits, length-fills room 32 (length-encode 32))

number_len : (f : ConversionSpecifier) (width : ℕ) (lead digits : List ℕ) → width ≤ length (filled_number f (width - (length lead + length digits)) lead digits)
number_len f width lead digits = omega (arith, number_by f.left_adj f.zero_pad (width - (length lead + length digits)) lead digits)

word_by : (left : Bool) (room : ℕ) (word : List ℕ) → length (cond left (word ++ fills room 32) (fills room 32 ++ word)) ≡ length word + room
word_by true room word = omega (arith, length-append word (fills room 32), length-fills room 32 (length-encode 32))
word_by false room word = omega (arith, length-append (fills room 32) word, length-fills room 32 (length-encode 32))

word_len : (f : ConversionSpecifier) (width : ℕ) (word : List ℕ) → width ≤ length (filled_word f (width - length word) word)
word_len f width word = omega (arith, word_by f.left_adj (width - length word) word)

-- ---- under a width that is a number

module _ (f : ConversionSpecifier) (width : ℕ) (text : List ℕ) (is_width : f.width ≡ Literal (pos width)) where
  number_fills : (lead : List ℕ) (n : ℕ) → number_text f lead n ≡ Ok text → width ≤ length text
  number_fills lead n e =
      let digits = digits_of f.conversion_type n in
      let written : filled_number f (width - (length lead + length digits)) lead digits ≡ text = ok_is (rw is_width at e) in
      subst (λ t. width ≤ length t) written (number_len f width lead digits)

  unsigned_fills : (n : ℕ) → unsigned_text f n ≡ Ok text → width ≤ length text
  unsigned_fills n e = number_fills (cond f.alt_form (prefix_of f.conversion_type) []) n e

  signed_by : (t : ConversionType) (z : ℤ) (complement : ℕ) → signed_text t f z complement ≡ Ok text → width ≤ length text
  signed_by DecInt z complement e = number_fills (sign_of f z) (unsigned_abs z) e
  signed_by _ z complement e = unsigned_fills complement e

  character_fills : (c : ℕ) → character_text f c ≡ Ok text → width ≤ length text
  character_fills c e =
      let written : filled_word f (width - length (encode_utf8 c)) (encode_utf8 c) ≡ text = ok_is (rw is_width at e) in
      subst (λ t. width ≤ length t) written (word_len f width (encode_utf8 c))

  word_fills_by : (o : Option ℕ) (word : List ℕ) → with_number o (λ precision. Ok (filled_word f (width - length (cut_to precision word)) (cut_to precision word))) ≡ Ok text → width ≤ length text
  word_fills_by None word e = cc
  word_fills_by (Some precision) word e = subst (λ t. width ≤ length t) (ok_is e) (word_len f width (cut_to precision word))

  word_fills : (word : List ℕ) → word_text f word ≡ Ok text → width ≤ length text
  word_fills word e = word_fills_by (number_of f.precision) word (rw is_width at e)

  where_fills : (has : Bool) (c : ℕ) → character_where has f c ≡ Ok text → width ≤ length text
  where_fills true c e = character_fills c e
  where_fills false c e = cc

  i8_fills : (z : ℤ) → signed_character f z ≡ Ok text → width ≤ length text
  i8_fills (pos c) e = character_fills c e
  i8_fills (negsuc n) e = cc

  refused : ◌≡◌ {A = Result (List ℕ) PrintfError} (Err WrongType) (Ok text) → width ≤ length text
  refused e = cc

  -- the text is that of the conversion's answer
  by_answer : (t : ConversionType) (digits character word : Result (List ℕ) PrintfError) → (digits ≡ Ok text → width ≤ length text) → (character ≡ Ok text → width ≤ length text) → (word ≡ Ok text → width ≤ length text) → by_conversion t digits character word ≡ Ok text → width ≤ length text
  by_answer DecInt d c w x y z e = x e
  by_answer OctInt d c w x y z e = x e
  by_answer HexIntLower d c w x y z e = x e
  by_answer HexIntUpper d c w x y z e = x e
  by_answer CharConversion d c w x y z e = y e
  by_answer StringConversion d c w x y z e = z e
  by_answer _ d c w x y z e = cc

  unsigned_only : (n : ℕ) → by_conversion f.conversion_type (unsigned_text f n) (Err WrongType) (Err WrongType) ≡ Ok text → width ≤ length text
  unsigned_only n e = by_answer f.conversion_type (unsigned_text f n) (Err WrongType) (Err WrongType) (unsigned_fills n) refused refused e

  code_fills : (has : Bool) (n : ℕ) → by_conversion f.conversion_type (unsigned_text f n) (character_where has f n) (Err WrongType) ≡ Ok text → width ≤ length text
  code_fills has n e = by_answer f.conversion_type (unsigned_text f n) (character_where has f n) (Err WrongType) (unsigned_fills n) (where_fills has n) refused e

  signed_only : (w : Width) (z : ℤ) → by_conversion f.conversion_type (signed_text f.conversion_type f z (cast_unsigned w z)) (Err WrongType) (Err WrongType) ≡ Ok text → width ≤ length text
  signed_only w z e = by_answer f.conversion_type (signed_text f.conversion_type f z (cast_unsigned w z)) (Err WrongType) (Err WrongType) (signed_by f.conversion_type z (cast_unsigned w z)) refused refused e

  value_fills : (value : Arg) → (arg_meaning value).text f ≡ Ok text → width ≤ length text
  value_fills (U8 n) e = code_fills (nat_lt n 128) n e
  value_fills (U16 n) e = code_fills (scalar n) n e
  value_fills (U32 n) e = code_fills (scalar n) n e
  value_fills (U64 n) e = unsigned_only n e
  value_fills (Usize n) e = unsigned_only n e
  value_fills (I8 z) e = by_answer f.conversion_type (signed_text f.conversion_type f z (cast_unsigned w8 z)) (signed_character f z) (Err WrongType) (signed_by f.conversion_type z (cast_unsigned w8 z)) (i8_fills z) refused e
  value_fills (I16 z) e = signed_only w16 z e
  value_fills (I32 z) e = signed_only w32 z e
  value_fills (I64 z) e = signed_only w64 z e
  value_fills (Isize z) e = signed_only w64 z e
  value_fills (Char c) e = by_answer f.conversion_type (Err WrongType) (character_text f c) (Err WrongType) refused (character_fills c) refused e
  value_fills (Str s) e = by_answer f.conversion_type (Err WrongType) (Err WrongType) (word_text f s.now) refused refused (word_fills s.now) e

pub fills_its_width : FillsItsWidth
fills_its_width value f width text e h = value_fills f width text e value h
