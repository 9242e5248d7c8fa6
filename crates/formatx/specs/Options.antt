-- The parts of a specification that a text begins with: each part with what follows it, or its fault.
use Rattle.std.specs.Prelude.{ℕ, Bool, true, false, ◌&&◌, ◌||◌, List, [], ◌∷◌, length, slice_index, drop, chars, codes, encode_utf8, ◌==◌, if◌then◌else◌, Option, Some, None, is_some, option_map, unwrap_or, ok_or, not, Result, Ok, Err}
use Rattle.std.specs.Option.{option_or}
use Rattle.std.specs.Char.{is_ascii_digit, len_utf8}
use Rattle.std.specs.List.{take_while, zip}
use Rattle.std.specs.Map.{lookup}
use Rattle.std.specs.Str.{byte}
use Rattle.formatx.specs.Fault.{Fault, unreadable, ◌>>=◌, between, quoting}
use Rattle.formatx.specs.Words.{begins, after, is_word_start, is_word, usize_of}
use Rattle.formatx.specs.declared.ast.Align.{Align}
use Rattle.formatx.specs.declared.ast.Align.TheVariants.{Left, Center, Right}
use Rattle.formatx.specs.declared.ast.Sign.{Sign}
use Rattle.formatx.specs.declared.ast.Sign.TheVariants.{Plus, Minus}
use Rattle.formatx.specs.declared.ast.Count.{Count}
use Rattle.formatx.specs.declared.ast.Count.TheVariants.{Literal, Param}
use Rattle.formatx.specs.declared.ast.CountParam.TheVariants.{Positional, Named}
use Rattle.formatx.specs.declared.ast.Precision.{Precision}
use Rattle.formatx.specs.declared.ast.Precision.TheVariants.{Count as Counted, Star}
use Rattle.formatx.specs.declared.ast.FormatType.{FormatType}
use Rattle.formatx.specs.declared.ast.FormatType.TheVariants.{Display, Debug, DebugLowerHex, DebugUpperHex, Octal, LowerHex, UpperHex, Binary, LowerExp, UpperExp, Pointer}

-- a part in front of a text and what follows it, or the fault there
abbrev pub Read : Type 0 → Type 0
Read A = Result (A × List ℕ) Fault

-- the alignment that a byte stands for
abbrev pub align_by : ℕ → Option Align
align_by c = lookup (λ mark. c == mark) (zip (codes "<^>") (Left ∷ Center ∷ Right ∷ []))

-- the first character
abbrev pub first_char : List ℕ → ℕ
first_char text = slice_index (chars text) 0

-- what follows the first character
abbrev pub after_char : List ℕ → List ℕ
after_char text = drop (len_utf8 (first_char text)) text

-- the alignment in front of a text, if there is one, with a fill
abbrev pub align_at : Option ℕ → List ℕ → Option (Option ℕ × Option Align × List ℕ)
align_at fill text = option_map (λ a. (fill, Some a, drop 1 text)) (align_by (slice_index text 0))

-- the first character as a fill with an alignment right after it, or an alignment alone; `}` is never a fill
abbrev pub fill_align_of : List ℕ → Option ℕ × Option Align × List ℕ
fill_align_of text =
    if length text == 0 || begins text (byte "}") then (None, None, text)
    else unwrap_or (option_or (align_at (Some (first_char text)) (after_char text)) (align_at None text)) (None, None, text)

-- `+` or `-`
abbrev pub sign_of : List ℕ → Option Sign × List ℕ
sign_of text =
    if begins text (byte "+") then (Some Plus, drop 1 text) else (if begins text (byte "-") then (Some Minus, drop 1 text) else (None, text))

-- the types by the letter that they begin with
abbrev pub type_by : ℕ → Option FormatType
type_by c = lookup (λ letter. c == letter) (zip (codes "?oxXbeEp") (Debug ∷ Octal ∷ LowerHex ∷ UpperHex ∷ Binary ∷ LowerExp ∷ UpperExp ∷ Pointer ∷ []))

-- a digit, `}`, `.`, a type or the end, one of which follows the zero flag
abbrev pub follows_zero : List ℕ → Bool
follows_zero text = length text == 0 || is_ascii_digit (slice_index text 0) || begins text (byte "}") || begins text (byte ".") || is_some (type_by (slice_index text 0))

-- `0`, where it is the zero flag
abbrev pub zero_of : List ℕ → Bool × List ℕ
zero_of text = if begins text (byte "0") && follows_zero (drop 1 text) then (true, drop 1 text) else (false, text)

-- the number that the digits in front write, or the message that they are too large
abbrev pub number_in : ℕ → List ℕ → List ℕ → Result ℕ Fault
number_in size text words =
    let digits = take_while is_ascii_digit text in
    ok_or (usize_of digits) (unreadable (between size text (after is_ascii_digit text)) (quoting words digits))

-- a count: digits, digits and `$`, or an identifier and `$`
unfoldable pub count_of : ℕ → List ℕ → Read (Option Count)
count_of size text =
    let digits = after is_ascii_digit text in
    let word = after is_word text in
    if is_ascii_digit (slice_index text 0) && begins digits (byte "$") then
    (number_in size text (codes "invalid count parameter: ") >>= λ n. Ok (Some (Param (Positional n)), drop 1 digits)) else
    (if is_ascii_digit (slice_index text 0) then (number_in size text (codes "invalid count: ") >>= λ n. Ok (Some (Literal n), digits)) else
    (if is_word_start (slice_index text 0) && begins word (byte "$") then Ok (Some (Param (Named (between size text word))), drop 1 word)
    else Ok (None, text)))

-- `.` and a count, or `.*`
unfoldable pub precision_of : ℕ → List ℕ → Read (Option Precision)
precision_of size text =
    let rest = drop 1 text in
    if not (begins text (byte ".")) then Ok (None, text) else
    (if length rest == 0 then Err (unreadable (between size text rest) (codes "expected precision after `.`")) else
    (if begins rest (byte "*") then Ok (Some Star, drop 1 rest) else
    (count_of size rest >>= λ count.
    ok_or (option_map (λ n. (Some (Counted n), count.1)) count.0) (unreadable (between size text rest) (codes "expected precision value after `.`")))))

-- a type: none where `}` or the end stands, and a debug type where `?` follows an `x` or an `X`
unfoldable pub type_of : ℕ → List ℕ → Read FormatType
type_of size text =
    let c = slice_index text 0 in
    let rest = drop 1 text in
    if length text == 0 || c == byte "}" then Ok (Display, text) else
    (if c == byte "x" && begins rest (byte "?") then Ok (DebugLowerHex, drop 1 rest) else
    (if c == byte "X" && begins rest (byte "?") then Ok (DebugUpperHex, drop 1 rest) else
    ok_or (option_map (λ t. (t, rest)) (type_by c)) (unreadable (between size text rest) (quoting (codes "unknown format type: ") (encode_utf8 c)))))
