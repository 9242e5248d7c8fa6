-- What each type reads.
use Rattle.std.specs.Prelude.{◌≡◌, ◌≢◌, ℕ, ℤ, Bool, true, false, List, [], ◌∷◌, ◌++◌, Option, Some, None, Result, Ok, Err, IfErr, IsOk, IsOkAnd, MatchResult, String, Vec, string_bytes, encode_utf8, ⊤}
use Rattle.std.specs.Global.{Global}
use Rattle.std.specs.Str.Parse.{ParsesUnsigned, ParsesSigned, ParsesBool}
use mir.Syntax.{Width}
use Rattle.whiteread.specs.Words.{Words}
use Rattle.whiteread.specs.Reading.{Relation, Reading, no_call, one_call, some_calls}
use Rattle.whiteread.specs.declared.stream.error.Error.{Error}
use Rattle.whiteread.specs.declared.stream.error.Error.TheVariants.{TooShort, ParseError}
use Rattle.whiteread.specs.declared.stream.error.Progress.TheVariants.{Nothing}

-- One word is read by a rule: no word is TooShort(Nothing), and a word that the rule refuses is ParseError.
abbrev pub ReadsWord : {T : Type 0} → (List ℕ → Result T Error → Type 0) → Relation T
ReadsWord rule [] answer rest = (answer ≡ Err (TooShort Nothing)) × (rest ≡ [])
ReadsWord rule (word ∷ words) answer rest = rule word answer × IfErr answer (λ why. why ≡ ParseError) × (rest ≡ words)

-- What a type of one word reads: it takes the word, calls `next` once, and wants no memory.
abbrev pub one_word : {T : Type 0} → (List ℕ → Result T Error → Type 0) → Reading T
one_word rule = record { reads = ReadsWord rule; least = 1; ends = λ value. ⊥; calls = one_call; allocates = false }

-- This is the rule of a type that std can parse.
abbrev pub parsed : {T E : Type 0} → (List ℕ → Result T E → Type 0) → List ℕ → Result T Error → Type 0
parsed gives word (Ok value) = gives word (Ok value)
parsed {T} {E} gives word (Err why) = (cause : E) × gives word (Err cause)

-- What an unsigned number of so many bits reads: an optional `+`, then decimal digits.
abbrev pub unsigned : ℕ → Reading ℕ
unsigned bits = one_word (ParsesUnsigned bits 10)

-- What a signed number reads: an optional `+` or `-`, then decimal digits.
abbrev pub signed : Width → Reading ℤ
signed width = one_word (ParsesSigned width 10)

-- What a truth value reads: `true` or `false`.
abbrev pub boolean : Reading Bool
boolean = one_word ParsesBool

-- What a text reads: any word, which is copied.
abbrev pub any_word : Reading (String Global)
any_word = record (one_word (λ word answer. IsOkAnd answer (λ text. string_bytes text ≡ word))) { allocates = true }

-- This is the first character of the word, or the word is empty, which no word of this crate's streams is.
abbrev pub FirstChar : List ℕ → Result ℕ Error → Type 0
FirstChar word answer = MatchResult answer (λ c. (more : List ℕ) × (word ≡ encode_utf8 c ++ more)) (λ why. word ≡ [])

-- What a character reads: one word, of which it is the first character.
abbrev pub character : Reading ℕ
character = one_word FirstChar

-- What the empty tuple reads: no word at all.
abbrev pub nothing : Reading (Unit {0})
nothing = record { reads = λ words answer rest. IsOk answer × (rest ≡ words); least = 0; ends = λ value. ⊥; calls = no_call; allocates = false }

-- An optional value is None exactly where the value answers TooShort(Nothing).
abbrev pub ReadsOption : {T : Type 0} → Relation T → Relation (Option T)
ReadsOption reads words (Ok None) rest = reads words (Err (TooShort Nothing)) rest
ReadsOption reads words (Ok (Some value)) rest = reads words (Ok value) rest
ReadsOption reads words (Err why) rest = (why ≢ TooShort Nothing) × reads words (Err why) rest

-- None leaves the stream at its end.
abbrev pub EndsOption : {T : Type 0} → (T → Type 0) → Option T → Type 0
EndsOption ends None = ⊤
EndsOption ends (Some value) = ends value

-- What an optional value reads: the value, if there is one.
abbrev pub optional : {T : Type 0} → Reading T → Reading (Option T)
optional reading = record { reads = ReadsOption reading.reads; least = 0; ends = EndsOption reading.ends; calls = reading.calls; allocates = reading.allocates }

-- These values are read one after another.
abbrev pub ReadsEach : {T : Type 0} → Relation T → Words → List T → Words → Type 0
ReadsEach reads words [] rest = rest ≡ words
ReadsEach reads words (value ∷ values) rest = (mid : Words) × reads words (Ok value) mid × ReadsEach reads mid values rest

-- Values are read until one answers TooShort(Nothing), and another refusal is the answer.
abbrev pub ReadsAll : {T : Type 0} → Relation T → Relation (Vec T Global)
ReadsAll reads words (Ok values) rest = (mid : Words) × ReadsEach reads words values.items mid × reads mid (Err (TooShort Nothing)) rest
ReadsAll {T} reads words (Err why) rest = (why ≢ TooShort Nothing) × ((values : List T) × (mid : Words) × ReadsEach reads words values mid × reads mid (Err why) rest)

-- What a list reads: values up to the end of the stream.
abbrev pub all_values : {T : Type 0} → Reading T → Reading (Vec T Global)
all_values reading = record { reads = ReadsAll reading.reads; least = 0; ends = λ values. ⊤; calls = some_calls; allocates = true }
