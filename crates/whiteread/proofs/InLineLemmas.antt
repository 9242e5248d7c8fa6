-- Calls over the words of a reader's current line, and over those of a new line.
use Rattle.std.proofs.Common.{◌≡◌, ◌≤◌, ◌<◌, ℕ, Bool, true, false, List, length, Result, Ok, Err, inl, inr, refl, ◌∙◌, ap, subst, arith}
use Rattle.std.specs.Str.{IsCharBoundary}
use Rattle.whiteread.specs.Stream.{Stream}
use Rattle.whiteread.specs.Reading.{Reading, Reached}
use Rattle.whiteread.specs.Reading.Whole.{WholeCall}
use Rattle.whiteread.specs.Words.Found.{FirstBoundary}
use Rattle.whiteread.specs.Words.Split.{split_text, split_position, SplitStep}
use Rattle.whiteread.specs.ReaderState.{reader_line, reader_passed, StaysInLine}
use Rattle.whiteread.specs.ReaderState.ReaderCalls.{InLine, OverNewLine}
use Rattle.whiteread.specs.declared.reader.Reader.{Reader}
use Rattle.whiteread.specs.declared.stream.split.SplitAsciiWhitespace.{SplitAsciiWhitespace}
use Rattle.whiteread.specs.declared.stream.error.Error.{Error}
use Rattle.whiteread.specs.declared.stream.error.Error.TheVariants.{TooShort, Leftovers, ParseError, IoError, NoMemory}
use Rattle.whiteread.specs.declared.stream.error.Progress.TheVariants.{Nothing}
use Rattle.whiteread.specs.Reading.Reach.{reached_read, reached_next}
use Rattle.whiteread.proofs.SplitLemmas.{Passed, reached_passed}

-- reading all words makes calls of `next` alone
pub reached_whole : {S T : Type 0} (stream : Stream S) (reading : Reading T) (old : S) (answer : Result T Error) (new : S) → WholeCall stream reading old answer new → Reached stream.step old new
reached_whole stream reading old (Ok value) new (mid, one, look) = reached_next stream.step old mid _ new (reached_read stream reading old (Ok value) mid one) look.step
reached_whole stream reading old (Err (TooShort progress)) new one = reached_read stream reading old (Err (TooShort progress)) new one
reached_whole stream reading old (Err Leftovers) new (value, mid, word, one, look) = reached_next stream.step old mid _ new (reached_read stream reading old (Ok value) mid one) look.step
reached_whole stream reading old (Err ParseError) new one = reached_read stream reading old (Err ParseError) new one
reached_whole stream reading old (Err (IoError fault)) new (inl one) = reached_read stream reading old (Err (IoError fault)) new one
reached_whole stream reading old (Err (IoError fault)) new (inr (value, mid, one, look)) = reached_next stream.step old mid _ new (reached_read stream reading old (Ok value) mid one) look.step
reached_whole stream reading old (Err NoMemory) new (inl one) = reached_read stream reading old (Err NoMemory) new one
reached_whole stream reading old (Err NoMemory) new (inr (value, mid, one, look)) = reached_next stream.step old mid _ new (reached_read stream reading old (Ok value) mid one) look.step

-- a place where a character begins stays
boundary_is : (text : List ℕ) (from to : ℕ) → FirstBoundary text from to → IsCharBoundary text from → to ≡ from
boundary_is text from to first boundary = let later : ¬ (from < to) = λ less. first.first from (omega arith) less boundary in omega (arith, later, first.after)

-- the line, split from the passed bytes on
pub record Begins {B : Type 0} (old : Reader B) (before : SplitAsciiWhitespace) : Type 0 where
  pub text : split_text before ≡ reader_line old
  pub from : split_position before ≡ reader_passed old

pub begins : {B : Type 0} (old : Reader B) (before : SplitAsciiWhitespace) (line : List ℕ) → line ≡ reader_line old → split_text before ≡ line → FirstBoundary line (reader_passed old) (split_position before) → Begins old before
begins old before line is text first = record {
  text = text ∙ is;
  from = boundary_is (reader_line old) (reader_passed old) (split_position before) (subst (λ (l : List ℕ). FirstBoundary l (reader_passed old) (split_position before)) is first) old.boundary;
}

pub in_line : {B T : Type 0} (call : SplitAsciiWhitespace → Result T Error → SplitAsciiWhitespace → Type 0) (old : Reader B) (answer : Result T Error) (new : Reader B) (before after : SplitAsciiWhitespace)
    → Begins old before → call before answer after → Reached SplitStep before after → reader_passed new ≡ split_position after → StaysInLine old new → InLine call old answer new
in_line call old answer new before after begin called reached passed stays = record {
  before = before;
  after = after;
  text = begin.text;
  from = begin.from;
  called = called;
  same_text = (reached_passed before after reached).text ∙ begin.text;
  passed = passed;
  stays = stays;
}

-- the bytes that are passed then end where a character begins
pub passed_boundary : {B : Type 0} (old : Reader B) (before after : SplitAsciiWhitespace) (to : ℕ) → Begins old before → Reached SplitStep before after → to ≡ split_position after
    → (to ≤ length (split_text after) → IsCharBoundary (split_text after) to) → IsCharBoundary (reader_line old) to
passed_boundary old before after to begin reached is boundary =
    let passed : Passed before after = reached_passed before after reached in
    let text : split_text after ≡ reader_line old = passed.text ∙ begin.text in
    let le : split_position before ≤ length (split_text before) = let b : reader_passed old ≤ length (reader_line old) = old.boundary.0 in omega (arith, b, begin.from, ap (λ (l : List ℕ). length l) begin.text) in
    subst (λ (l : List ℕ). IsCharBoundary l to) text (boundary (omega (arith, is, passed.within le, ap (λ (l : List ℕ). length l) passed.text)))

-- no line could be read
pub over_refused : {B T : Type 0} (line_call : Reader B → Result Bool Error → Reader B → Type 0) (call : Reader B → Result T Error → Reader B → Type 0) (old : Reader B) (why : Error) (new : Reader B)
    → line_call old (Err why) new → OverNewLine line_call call old (Err why) new
over_refused line_call call old why new line = record { found = Err why; mid = new; line = line; then = (refl, refl) }

-- the input has ended
pub over_end : {B T : Type 0} (line_call : Reader B → Result Bool Error → Reader B → Type 0) (call : Reader B → Result T Error → Reader B → Type 0) (old : Reader B) (found : Bool) (new : Reader B)
    → found ≡ false → line_call old (Ok found) new → OverNewLine line_call call old (Err (TooShort Nothing)) new
over_end line_call call old found new is line = record { found = Ok false; mid = new; line = subst (λ b. line_call old (Ok b) new) is line; then = (refl, refl) }

-- a line was read, and then its words
pub over_line : {B T : Type 0} (line_call : Reader B → Result Bool Error → Reader B → Type 0) (call : Reader B → Result T Error → Reader B → Type 0) (old : Reader B) (found : Bool) (mid : Reader B) (answer : Result T Error) (new : Reader B)
    → found ≡ true → line_call old (Ok found) mid → call mid answer new → OverNewLine line_call call old answer new
over_line line_call call old found mid answer new is line called = record { found = Ok true; mid = mid; line = subst (λ b. line_call old (Ok b) mid) is line; then = called }
