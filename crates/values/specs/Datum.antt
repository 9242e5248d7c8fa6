-- Values as plain data, and what they are to a printf format.
use Rattle.std.specs.Prelude.{ℕ, ℤ, ◌^◌, ◌<◌, List, [], ◌∷◌, FitsSigned, IsUtf8, None, Err, string_bytes}
use Rattle.std.specs.Char.{IsScalar}
use mir.Syntax.{w8, w16, w32, w64}
use Rattle.sprintf.specs.declared.PrintfError.TheVariants.{WrongType}
use Rattle.sprintf.specs.Meaning.{Meaning}
use Rattle.sprintf.specs.Values.{u8_meaning, code_meaning, unsigned_meaning, i8_meaning, signed_meaning, char_meaning, word_meaning}
use Rattle.values.specs.declared.kind.Kind.{Kind}
use Rattle.values.specs.declared.kind.Kind.TheVariants.{U8, U16, U32, U64, Usize, I8, I16, I32, I64, Isize, Word, Char}
use Rattle.values.specs.declared.word.Word.{Word as WordOf}
use Rattle.values.specs.declared.value.Value.{Value}
use Rattle.values.specs.declared.value.Value.TheVariants.{U8 as OfU8, U16 as OfU16, U32 as OfU32, U64 as OfU64, Usize as OfUsize, I8 as OfI8, I16 as OfI16, I32 as OfI32, I64 as OfI64, Isize as OfIsize, Word as OfWord, Char as OfChar}

-- A value as plain data: a number of a kind without or with a sign, the bytes of a word, or a character.
pub data Datum : Type 0 where
  natural : ℕ → Datum
  integer : ℤ → Datum
  word : List ℕ → Datum
  character : ℕ → Datum

-- The datum is a value of the kind: a number in its range, a text, a character.
abbrev pub IsOfKind : Kind → Datum → Type 0
IsOfKind U8 (natural n) = n < 2 ^ 8
IsOfKind U16 (natural n) = n < 2 ^ 16
IsOfKind U32 (natural n) = n < 2 ^ 32
IsOfKind U64 (natural n) = n < 2 ^ 64
IsOfKind Usize (natural n) = n < 2 ^ 64
IsOfKind I8 (integer z) = FitsSigned w8 z
IsOfKind I16 (integer z) = FitsSigned w16 z
IsOfKind I32 (integer z) = FitsSigned w32 z
IsOfKind I64 (integer z) = FitsSigned w64 z
IsOfKind Isize (integer z) = FitsSigned w64 z
IsOfKind Word (word text) = IsUtf8 text
IsOfKind Char (character c) = IsScalar c
IsOfKind kind datum = ⊥

-- What a value of no kind would be to a format: nothing prints it.
abbrev pub no_meaning : Meaning
no_meaning = record { text = λ _. Err WrongType; int = None }

-- What a value of the kind is to a printf format: a value of its type.
abbrev pub printf_meaning : Kind → Datum → Meaning
printf_meaning U8 (natural n) = u8_meaning n
printf_meaning U16 (natural n) = code_meaning n
printf_meaning U32 (natural n) = code_meaning n
printf_meaning U64 (natural n) = unsigned_meaning n
printf_meaning Usize (natural n) = unsigned_meaning n
printf_meaning I8 (integer z) = i8_meaning z
printf_meaning I16 (integer z) = signed_meaning w16 z
printf_meaning I32 (integer z) = signed_meaning w32 z
printf_meaning I64 (integer z) = signed_meaning w64 z
printf_meaning Isize (integer z) = signed_meaning w64 z
printf_meaning Word (word text) = word_meaning text
printf_meaning Char (character c) = char_meaning c
printf_meaning kind datum = no_meaning

-- The bytes of a word.
abbrev pub word_text : WordOf → List ℕ
word_text w = string_bytes w.text

-- The kind of a value.
abbrev pub kind_of : Value → Kind
kind_of (OfU8 n) = U8
kind_of (OfU16 n) = U16
kind_of (OfU32 n) = U32
kind_of (OfU64 n) = U64
kind_of (OfUsize n) = Usize
kind_of (OfI8 z) = I8
kind_of (OfI16 z) = I16
kind_of (OfI32 z) = I32
kind_of (OfI64 z) = I64
kind_of (OfIsize z) = Isize
kind_of (OfWord w) = Word
kind_of (OfChar c) = Char

-- What a value holds.
abbrev pub datum_of : Value → Datum
datum_of (OfU8 n) = natural n
datum_of (OfU16 n) = natural n
datum_of (OfU32 n) = natural n
datum_of (OfU64 n) = natural n
datum_of (OfUsize n) = natural n
datum_of (OfI8 z) = integer z
datum_of (OfI16 z) = integer z
datum_of (OfI32 z) = integer z
datum_of (OfI64 z) = integer z
datum_of (OfIsize z) = integer z
datum_of (OfWord w) = word (word_text w)
datum_of (OfChar c) = character c

-- What a value is to a printf format.
abbrev pub value_meaning : Value → Meaning
value_meaning value = printf_meaning (kind_of value) (datum_of value)

-- What values of these kinds are, one by one, by what one value of a kind is.
abbrev pub each_of : {A : Type 0} → (Kind → Datum → A) → List Kind → List Datum → List A
each_of meaning (kind ∷ kinds) (value ∷ values) = meaning kind value ∷ each_of meaning kinds values
each_of meaning _ _ = []
