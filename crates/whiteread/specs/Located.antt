-- An error with its place in the input, and what it prints.
pub mod ErrorText
pub mod Rendered
use Rattle.std.specs.Prelude.{◌≡◌, ℕ, Bool, true, false, not, ◌&&◌, ◌⊎◌, List, ◌++◌, Option, None, Some, Result, Ok, Err, replicate, codes, decimal, nat_lt, if◌then◌else◌}
use Rattle.std.specs.Option.{unwrap_or}
use Rattle.whiteread.specs.declared.stream.error.Error.{Error}
use Rattle.whiteread.specs.declared.stream.error.Error.TheVariants.{TooShort, Leftovers, ParseError, IoError, NoMemory}
use Rattle.whiteread.specs.declared.stream.error.Progress.TheVariants.{Nothing, Partial}
use Rattle.whiteread.specs.declared.stream.error.IoFault.TheVariants.{ReadFault, NotUtf8, TooLong, CannotOpen}
use Rattle.whiteread.specs.Located.Rendered.{rendered}

-- An error, its row and the bytes of the line that were passed, and the text that shows the line.
pub record Located : Type 0 where
  pub error : Error
  pub place : Option (ℕ × ℕ)
  pub rendered : Option (List ℕ)

-- The error is about a place in the input.
abbrev pub is_placed : Error → Bool
is_placed (TooShort progress) = true
is_placed Leftovers = true
is_placed ParseError = true
is_placed (IoError fault) = false
is_placed NoMemory = false

-- The error is about a place, and a line was read.
abbrev pub has_place : Error → ℕ → Bool
has_place error row = is_placed error && nat_lt 0 row

-- The row and the passed bytes, where there is a place.
abbrev pub place_of : Error → ℕ → ℕ → Option (ℕ × ℕ)
place_of error row passed = if has_place error row then Some (row, passed) else None

-- The line is shown: there is a place, and the error isn't asked to be cheap.
abbrev pub is_shown : Error → ℕ → Bool → Bool
is_shown error row cheap = has_place error row && not cheap

-- The rendered text, where the line is shown.
abbrev pub text_of : Error → ℕ → ℕ → List ℕ → Bool → Option (List ℕ)
text_of error row passed line cheap = if is_shown error row cheap then Some (rendered error row passed line) else None

-- The error with its place and its text.
abbrev pub located : Error → ℕ → ℕ → List ℕ → Bool → Located
located error row passed line cheap = record { error = error; place = place_of error row passed; rendered = text_of error row passed line cheap }

-- An error without place and text.
abbrev pub unplaced : Error → Located
unplaced error = record { error = error; place = None; rendered = None }

-- The result is the error with its place and its text, or memory for the text was refused.
abbrev pub IsLocated : Error → ℕ → ℕ → List ℕ → Bool → Located → Type 0
IsLocated error row passed line cheap result = (result ≡ located error row passed line cheap) ⊎ ((is_shown error row cheap ≡ true) × (result ≡ unplaced NoMemory))

-- The answer is told as it is, and an error with this row and the bytes of this line that were passed.
abbrev pub IsTold : {T : Type 0} → Bool → Result T Error → ℕ → ℕ → List ℕ → Result T Located → Type 0
IsTold cheap (Ok value) row passed line result = result ≡ Ok value
IsTold cheap (Err why) row passed line result = (error : Located) × (result ≡ Err error) × IsLocated why row passed line cheap error

-- An answer with the error alone, without its place.
abbrev pub inner_answer : {T : Type 0} → Result T Located → Result T Error
inner_answer (Ok value) = Ok value
inner_answer (Err located) = Err located.error

-- The name of each error, as Rust's Debug writes it.
abbrev pub error_name : Error → List ℕ
error_name (TooShort Nothing) = codes "TooShort(Nothing)"
error_name (TooShort Partial) = codes "TooShort(Partial)"
error_name Leftovers = codes "Leftovers"
error_name ParseError = codes "ParseError"
error_name (IoError ReadFault) = codes "IoError(ReadFault)"
error_name (IoError NotUtf8) = codes "IoError(NotUtf8)"
error_name (IoError TooLong) = codes "IoError(TooLong)"
error_name (IoError CannotOpen) = codes "IoError(CannotOpen)"
error_name NoMemory = codes "NoMemory"

-- The rule is 79 times `~`.
unfoldable pub rule : List ℕ
rule = replicate 79 126

-- The end of Debug's form: the rendered text, where there is one, between two rules, and the brace.
abbrev pub debug_end : Option (List ℕ) → List ℕ
debug_end (Some text) = codes ", rendered:\n" ++ (rule ++ (codes "\n" ++ (text ++ (rule ++ codes "\n}"))))
debug_end None = codes "}"

-- What Debug prints of an error, a row, a number of passed bytes and a rendered text.
abbrev pub debug_form : Error → ℕ → ℕ → Option (List ℕ) → List ℕ
debug_form error row passed text =
    codes "Error { error: " ++ (error_name error ++ (codes ", row: " ++ (decimal row ++ (codes ", col: " ++ (decimal passed ++ debug_end text)))))

-- What Debug prints; without a place the row and the passed bytes are 0.
abbrev pub debug_text : Located → List ℕ
debug_text e = let place = unwrap_or e.place (0, 0) in debug_form e.error place.0 place.1 e.rendered

-- What Display prints: the rendered text, and Debug's where there is none.
abbrev pub display_text : Located → List ℕ
display_text e = unwrap_or e.rendered (debug_text e)
