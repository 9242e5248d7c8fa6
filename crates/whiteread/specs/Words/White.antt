-- std's `SplitWhitespace` as a stream of words.
use Rattle.std.specs.Prelude.{ℕ, List, length, Option, Some, None, Ok, Err, if◌then◌else◌, false, ⊤}
use Rattle.std.specs.Char.{is_not_whitespace}
use Rattle.std.specs.Str.{NoCharPasses, is_utf8}
use Rattle.std.specs.Str.Iter.{split_whitespace_rest}
use Rattle.std.specs.declared.str.SplitWhitespace.{SplitWhitespace}
use denote.Ref.{Bor}
use Rattle.whiteread.specs.Words.{Words, white_words}
use Rattle.whiteread.specs.Stream.{Stream, Answer, NextCall, answer_of}

-- These are the words of the text that is left; it is a `str`, and so UTF-8, which std's contracts don't tell.
abbrev pub white_words_left : SplitWhitespace → Option Words
white_words_left s = if is_utf8 (split_whitespace_rest s) then Some (white_words (split_whitespace_rest s)) else None

-- Only white space is left.
abbrev pub IsWhite : SplitWhitespace → Type 0
IsWhite s = NoCharPasses is_not_whitespace (split_whitespace_rest s)

-- A call of `next` is never refused.
abbrev pub WhiteStep : SplitWhitespace → Answer → SplitWhitespace → Type 0
WhiteStep old (Ok found) new = ⊤
WhiteStep old (Err why) new = ⊥

-- std's iterator is a stream whose words are those of the text that is left.
abbrev pub white_stream : Stream SplitWhitespace
white_stream = record {
  left = white_words_left;
  bound = λ s. length (split_whitespace_rest s);
  at_end = IsWhite;
  step = WhiteStep;
  faults = λ s fault. 0;
  allocates = false;
}

-- A step of the iterator is a call of `next`.
abbrev pub GivesWhite : SplitWhitespace → Option (Bor (List ℕ)) → SplitWhitespace → Type 0
GivesWhite old found new = NextCall white_stream old (answer_of (Ok found)) new
