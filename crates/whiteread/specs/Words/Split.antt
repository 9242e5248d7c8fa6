-- What a `SplitAsciiWhitespace` shows, and what a call of its `next` does.
use Rattle.std.specs.Prelude.{◌≡◌, ℕ, List, drop, Option, Ok, Err, option_copied}
use denote.Ref.{Bor}
use Rattle.whiteread.specs.Words.{Words, words}
use Rattle.whiteread.specs.Words.Found.{NextWord}
use Rattle.whiteread.specs.Stream.{Stream, Answer, told_stream}
use Rattle.whiteread.specs.declared.stream.split.SplitAsciiWhitespace.{SplitAsciiWhitespace}

-- This is the text that is split.
abbrev pub split_text : SplitAsciiWhitespace → List ℕ
split_text s = s.text.now

-- So many of its bytes were passed.
abbrev pub split_position : SplitAsciiWhitespace → ℕ
split_position s = s.position

-- The words left are those from the position on.
abbrev pub words_left : SplitAsciiWhitespace → Words
words_left s = words (drop (split_position s) (split_text s))

-- A call of `next` moves the position in the same text, and is never refused.
abbrev pub SplitStep : SplitAsciiWhitespace → Answer → SplitAsciiWhitespace → Type 0
SplitStep old (Ok found) new = (split_text new ≡ split_text old) × NextWord (split_text old) (split_position old) found (split_position new)
SplitStep old (Err why) new = ⊥

-- A step of the iterator does the same.
abbrev pub GivesWord : SplitAsciiWhitespace → Option (Bor (List ℕ)) → SplitAsciiWhitespace → Type 0
GivesWord old found new = SplitStep old (Ok (option_copied found)) new

-- A split text is a stream whose words are told.
abbrev pub split_stream : Stream SplitAsciiWhitespace
split_stream = told_stream words_left SplitStep
