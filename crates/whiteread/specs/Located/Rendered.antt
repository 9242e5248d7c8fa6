-- The text that shows where in a line an error stands.
use Rattle.std.specs.Prelude.{ℕ, ◌+◌, ◌-◌, Bool, ◌||◌, List, ◌++◌, length, take, map, min, replicate, codes, chars, decimal, eqb, nat_le, if◌then◌else◌}
use Rattle.std.specs.List.{suffix_len}
use Rattle.std.specs.Fmt.Cut.{floor_char_boundary}
use Rattle.whiteread.specs.declared.stream.error.Error.{Error}
use Rattle.whiteread.specs.declared.stream.error.Error.TheVariants.{TooShort, Leftovers, ParseError, IoError, NoMemory}
use Rattle.whiteread.specs.Located.ErrorText.{error_text}

-- A byte that ends a line: `\n` or `\r`.
abbrev pub is_line_end : ℕ → Bool
is_line_end byte = eqb byte 10 || eqb byte 13

-- The line without the `\n` and `\r` at its end, all of them.
abbrev pub shown : List ℕ → List ℕ
shown line = take (length line - suffix_len is_line_end line) line

-- The last byte before the place, for an error that is about a word which was passed; else the place itself.
abbrev pub last_of : Error → ℕ → ℕ
last_of ParseError place = place - 1
last_of Leftovers place = place - 1
last_of (TooShort progress) place = place
last_of (IoError fault) place = place
last_of NoMemory place = place

-- Where the mark stands: the passed bytes as far as the text goes, one less for an error about a passed word, stepped back to where a character begins.
abbrev pub mark : Error → ℕ → List ℕ → ℕ
mark error passed text = floor_char_boundary text (last_of error (min passed (length text)))

-- What stands under a text: a space for each character, but a character that is at most 0x20 stands as it is.
abbrev pub under : List ℕ → List ℕ
under text = map (λ c. min c 32) (chars text)

-- The text of a line that is shown: the error, the row and the line, and below them the mark.
abbrev pub shown_text : Error → ℕ → ℕ → List ℕ → List ℕ
shown_text error row passed text =
    error_text error ++ (codes " at\n" ++ (decimal row ++ (codes " | " ++ (text ++ (codes "\n"
    ++ (replicate (length (decimal row)) 32 ++ (codes "   "
    ++ (under (take (mark error passed text) text) ++ codes "^\n"))))))))

-- The text of a line that is too long to be shown: the error, the row, and the column from 1.
abbrev pub long_text : Error → ℕ → ℕ → List ℕ
long_text error row passed = error_text error ++ (codes " at line " ++ (decimal row ++ (codes ", column " ++ (decimal (passed + 1) ++ codes "\n"))))

-- The text of an error in a line of which so many bytes were passed: a line of at most 120 bytes is shown.
abbrev pub rendered : Error → ℕ → ℕ → List ℕ → List ℕ
rendered error row passed line = if nat_le (length (shown line)) 120 then shown_text error row passed (shown line) else long_text error row passed
