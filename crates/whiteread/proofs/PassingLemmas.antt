-- Calls of a reader's `next`, line by line.
use Rattle.std.proofs.Common.{inl, inr, ◌≡◌, ◌≤◌, ◌<◌, ◌+◌, ◌-◌, ℕ, Bool, true, false, cond, List, [], ◌∷◌, ◌++◌, length, drop, drop_of_length-le, Option, Some, None, Ok, Err, refl, sym, ◌∙◌, ap, subst, arith, length-append, length-drop, length-take}
use Rattle.std.specs.Option.{option_map}
use Rattle.std.specs.Io.KnownBytes.{Consumes, IsAtEnd}
use Rattle.std.specs.Str.{IsUtf8}
use Rattle.std.proofs.lemmas.Bool.{cond-false}
use Rattle.edge_io.specs.Supply.{Supply}
use Rattle.whiteread.specs.Words.{Words, words}
use Rattle.whiteread.specs.Lines.{HasNoFeed, IsFirstLine, lines_of}
use Rattle.whiteread.specs.Words.Found.{FindsWord}
use Rattle.whiteread.specs.Stream.{Answer, NextCall, TakesFirst, CountsNext}
use Rattle.whiteread.specs.ReaderState.{reader_source, reader_limit, reader_taken, reader_past, reader_waiting, reader_line, reader_passed, reader_faults, StaysInLine}
use Rattle.whiteread.specs.LineCall.{LineCall, LineOutcome}
use Rattle.whiteread.specs.ReaderState.ReaderWords.{reader_left, reader_bound, reader_stream, words_in_line, words_ahead, words_of_lines, whole_within, PassesLines}
use Rattle.whiteread.specs.Inner.ReaderSteps.{LooksInLine, word_answer, word_from}
use Rattle.whiteread.specs.Inner.ReaderProofs.{end_left}
use Rattle.whiteread.specs.declared.reader.Reader.{Reader}
use Rattle.whiteread.specs.declared.stream.error.Error.{Error}
use Rattle.whiteread.specs.declared.stream.error.Error.TheVariants.{TooShort, Leftovers, ParseError, IoError, NoMemory}
use Rattle.whiteread.specs.declared.stream.error.IoFault.{IoFault}
use Rattle.whiteread.specs.declared.stream.error.IoFault.TheVariants.{ReadFault, NotUtf8, TooLong, CannotOpen}
use Rattle.whiteread.proofs.AheadLemmas.{ahead_cut}

-- lines without a word left were passed
pub record Passing {B : Type 0} (supply : Supply B) (old cur : Reader B) : Type 0 where
  pub states : List (Reader B)
  pub passes : PassesLines supply old states cur
  pub left : (all : Words) → reader_left supply old ≡ Some all → reader_left supply cur ≡ Some all
  pub bound : reader_bound cur ≤ reader_bound old
  pub counts : reader_faults supply cur ≡ reader_faults supply old

pub passing_none : {B : Type 0} (supply : Supply B) (old : Reader B) → Passing supply old old
passing_none supply old = record { states = []; passes = refl; left = λ all is. is; bound = omega arith; counts = refl }

passes_more : {B : Type 0} (supply : Supply B) (old : Reader B) (states : List (Reader B)) (cur next : Reader B)
    → PassesLines supply old states cur → words_in_line cur ≡ [] → LineCall supply cur (Ok true) next → PassesLines supply old (states ++ next ∷ []) next
passes_more supply old [] cur next passes none call =
    (subst (λ r. words_in_line r ≡ []) passes none, subst (λ r. LineCall supply r (Ok true) next) passes call, refl)
passes_more supply old (state ∷ states) cur next passes none call =
    (passes.0, passes.1, passes_more supply state states cur next passes.2 none call)

not_past : {B : Type 0} (old new : Reader B) → (reader_past old ≡ true → reader_past new ≡ true) → reader_past new ≡ false → reader_past old ≡ false
not_past old new stays now =
    elim (reader_past old) as (λ b. (b ≡ true → reader_past new ≡ true) → b ≡ false) [
      | true ↦ λ h. absurd (clash (reader_past new) (h refl) now)
      | false ↦ λ h. refl
    ] stays where
      clash : (b : Bool) → b ≡ true → b ≡ false → ⊥
      clash true p q = cc
      clash false p q = cc

ahead_within : {B : Type 0} (r : Reader B) (bytes : List ℕ) → reader_past r ≡ false
    → words_ahead r bytes ≡ words_of_lines (lines_of (whole_within (reader_limit r - reader_taken r) (reader_waiting r) bytes))
ahead_within r bytes h = cond-false (reader_past r) [] _ h

some_is : (a b : Words) → Some a ≡ Some b → a ≡ b
some_is a b is = cc

line_left : {B : Type 0} (cur next : Reader B) (got : List ℕ) (known after : Option (List ℕ)) (all : Words) → words_in_line cur ≡ [] → reader_passed next ≡ 0 → reader_past cur ≡ false → reader_past next ≡ false
    → reader_taken next ≡ reader_taken cur + length got → reader_limit next ≡ reader_limit cur → reader_waiting cur ++ got ≡ reader_line next ++ reader_waiting next
    → IsFirstLine (reader_line next) (reader_waiting next) → IsUtf8 (reader_line next)
    → Consumes known after got → (HasNoFeed (reader_line next) → IsAtEnd after)
    → option_map (λ bytes. words_in_line cur ++ words_ahead cur bytes) known ≡ Some all → option_map (λ bytes. words_in_line next ++ words_ahead next bytes) after ≡ Some all
line_left cur next got None after all none passed past past_next taken limit cut first utf8 bytes end told = absurd (let e = told in cc)
line_left cur next got (Some xs) None all none passed past past_next taken limit cut first utf8 bytes end told = absurd bytes
line_left cur next got (Some xs) (Some ys) all none passed past past_next taken limit cut first utf8 bytes end told =
    let room : reader_limit cur - reader_taken cur ≡ length got + (reader_limit next - reader_taken next) = let w : reader_taken next ≤ reader_limit next = next.within in omega (arith, taken, limit, w) in
    let ahead = ahead_cut (reader_limit cur - reader_taken cur) (reader_limit next - reader_taken next) (reader_waiting cur) got (reader_line next) (reader_waiting next) ys room cut first end utf8 in
    let in_line : words_in_line next ≡ words (reader_line next) = ap (λ n. words (drop n (reader_line next))) passed in
    let is : words_in_line next ++ words_ahead next ys ≡ all =
    ap (λ (w : Words). w ++ words_ahead next ys) in_line ∙ ap (λ (w : Words). words (reader_line next) ++ w) (ahead_within next ys past_next) ∙ sym ahead
    ∙ sym (ap (λ (l : List ℕ). words_of_lines (lines_of (whole_within (reader_limit cur - reader_taken cur) (reader_waiting cur) l))) bytes) ∙ sym (ahead_within cur xs past)
    ∙ sym (ap (λ (w : Words). w ++ words_ahead cur xs) none) ∙ some_is _ _ told in
    ap Some is

pub passing_more : {B : Type 0} (supply : Supply B) (old cur next : Reader B)
    → Passing supply old cur → words_in_line cur ≡ [] → LineCall supply cur (Ok true) next → Passing supply old next
passing_more supply old cur next passing none call =
    let takes = call.outcome.0 in
    record {
      states = passing.states ++ next ∷ [];
      passes = passes_more supply old passing.states cur next passing.passes none call;
      left = λ all is.
          line_left cur next takes.got (supply.rest (reader_source cur)) (supply.rest (reader_source next)) all none call.passed (not_past cur next call.stays_past takes.past) takes.past takes.taken call.limit takes.cut takes.first call.outcome.1
          takes.gave.bytes takes.unended (passing.left all is);
      bound = let w : reader_taken next ≤ reader_limit next = next.within in
          omega (arith, passing.bound, w, takes.taken, call.limit, ap (λ (l : List ℕ). length l) takes.cut, length-append (reader_waiting cur) takes.got, length-append (reader_line next) (reader_waiting next));
      counts = call.counts ∙ passing.counts;
    }

line_some : (line after : List ℕ) → IsFirstLine line after → 0 < length line
line_some line after (inl whole) = omega (arith, ap (λ (l : List ℕ). length l) whole.1, length-append whole.0 (10 ∷ []))
line_some line after (inr last) = last.0.0

-- what is ahead of the line falls with each line
abbrev pub ahead_bound : {B : Type 0} → Reader B → ℕ
ahead_bound r = length (reader_waiting r) + (reader_limit r - reader_taken r)

pub ahead_falls : {B : Type 0} (supply : Supply B) (cur next : Reader B) → LineCall supply cur (Ok true) next → ahead_bound next < ahead_bound cur
ahead_falls supply cur next call =
    let takes = call.outcome.0 in
    let w : reader_taken next ≤ reader_limit next = next.within in
    omega (arith, w, takes.taken, call.limit, ap (λ (l : List ℕ). length l) takes.cut, length-append (reader_waiting cur) takes.got, length-append (reader_line next) (reader_waiting next), line_some (reader_line next) (reader_waiting next) takes.first)

takes_told : (old : Option Words) (answer : Answer) (new : Option Words) → ((all : Words) → old ≡ Some all → TakesFirst (Some all) answer new) → TakesFirst old answer new
takes_told None answer new told = tt
takes_told (Some all) answer new told = told all refl

-- ---- a word of the line

abbrev ahead : Bool → ℕ → List ℕ → List ℕ → Words
ahead past room waiting bytes = cond past [] (words_of_lines (lines_of (whole_within room waiting bytes)))

same_ahead : {B : Type 0} (cur new : Reader B) (bytes : List ℕ) → StaysInLine cur new → words_ahead new bytes ≡ words_ahead cur bytes
same_ahead cur new bytes stays =
    ap (λ p. ahead p (reader_limit new - reader_taken new) (reader_waiting new) bytes) stays.past
    ∙ ap (λ n. ahead (reader_past cur) (n - reader_taken new) (reader_waiting new) bytes) stays.limit
    ∙ ap (λ n. ahead (reader_past cur) (reader_limit cur - n) (reader_waiting new) bytes) stays.taken
    ∙ ap (λ (l : List ℕ). ahead (reader_past cur) (reader_limit cur - reader_taken cur) l bytes) stays.waiting

word_left : {B : Type 0} (cur new : Reader B) (word : List ℕ) (known after : Option (List ℕ)) (all : Words) → FindsWord (reader_line cur) (reader_passed cur) word (reader_passed new) → StaysInLine cur new → after ≡ known
    → option_map (λ bytes. words_in_line cur ++ words_ahead cur bytes) known ≡ Some all
    → (more : Words) × (all ≡ word ∷ more) × (option_map (λ bytes. words_in_line new ++ words_ahead new bytes) after ≡ Some more)
word_left cur new word None after all finds stays same told = absurd (let e = told in cc)
word_left cur new word (Some xs) after all finds stays same told =
    let line : words_in_line cur ≡ word ∷ words_in_line new = finds.first ∙ ap (λ (l : List ℕ). word ∷ words (drop (reader_passed new) l)) (sym stays.line) in (
      words_in_line new ++ words_ahead new xs,
      sym (some_is _ _ told) ∙ ap (λ (w : Words). w ++ words_ahead cur xs) line ∙ ap (λ (w : Words). word ∷ (words_in_line new ++ w)) (sym (same_ahead cur new xs stays)),
      ap (option_map (λ bytes. words_in_line new ++ words_ahead new bytes)) same,
    )

pub word_call : {B : Type 0} (supply : Supply B) (old cur : Reader B) (start : ℕ) (new : Reader B)
    → Passing supply old cur → LooksInLine cur (Some start) new → NextCall (reader_stream supply) old (word_answer (Ok (Some start)) new) new
word_call supply old cur start new passing (finds, stays, less, within, boundary) =
    let word = word_from start new in
    record {
      words = takes_told (reader_left supply old) (Ok (Some word)) (reader_left supply new)
          (λ all is. word_left cur new word (supply.rest (reader_source cur)) (supply.rest (reader_source new)) all finds stays (ap supply.rest stays.source) (passing.left all is));
      bound =
          omega (
            arith,
            passing.bound,
            finds.end,
            less,
            within,
            stays.limit,
            stays.taken,
            ap (λ (l : List ℕ). length l) stays.waiting,
            ap (λ (l : List ℕ). length l) stays.line,
            length-take (reader_passed new - start) (drop start (reader_line new)),
            length-drop start (reader_line new),
          );
      end = tt;
      counts = stays.faults supply ∙ passing.counts;
      step = record { states = passing.states; last = cur; passes = passing.passes; ends = (finds, stays) };
      memory = tt;
    }

-- ---- the end

words_none : (passed : ℕ) (line : List ℕ) → line ≡ [] → words (drop passed line) ≡ []
unfolding words
words_none passed line is = ap (λ (l : List ℕ). words (drop passed l)) is ∙ ap words (drop_of_length-le [] (omega arith))

end_before : (known after : Option (List ℕ)) → Consumes known after [] → IsAtEnd after → IsAtEnd known
end_before None after bytes end = tt
end_before (Some xs) None bytes end = absurd bytes
end_before (Some xs) (Some ys) bytes end = bytes ∙ end

end_told : {B : Type 0} (cur new : Reader B) (known after : Option (List ℕ)) (all : Words) → Consumes known after [] → IsAtEnd after → words_in_line new ≡ [] → reader_waiting new ≡ []
    → option_map (λ bytes. words_in_line cur ++ words_ahead cur bytes) known ≡ Some all → option_map (λ bytes. words_in_line new ++ words_ahead new bytes) after ≡ Some []
end_told cur new None after all bytes end line waiting told = absurd (let e = told in cc)
end_told cur new (Some xs) None all bytes end line waiting told = absurd bytes
end_told cur new (Some xs) (Some ys) all bytes end line waiting told = ap Some (end_left new (Some ys) (words_in_line new ++ words_ahead new ys) line waiting end refl)

pub none_call : {B : Type 0} (supply : Supply B) (old cur new : Reader B)
    → Passing supply old cur → words_in_line cur ≡ [] → LineCall supply cur (Ok false) new → NextCall (reader_stream supply) old (Ok None) new
none_call supply old cur new passing none call =
    let meets = call.outcome.0 in
    let line : words_in_line new ≡ [] = words_none (reader_passed new) (reader_line new) call.outcome.1.line in
    record {
      words = takes_told (reader_left supply old) (Ok None) (reader_left supply new)
          (λ all is. (
            end_left cur (supply.rest (reader_source cur)) all none meets.none_waited (end_before (supply.rest (reader_source cur)) (supply.rest (reader_source new)) meets.gave.bytes meets.end) (passing.left all is),
            end_told cur new (supply.rest (reader_source cur)) (supply.rest (reader_source new)) all meets.gave.bytes meets.end line meets.none_waits (passing.left all is),
          ));
      bound = omega (arith, passing.bound, meets.taken, call.limit, ap (λ (l : List ℕ). length l) meets.none_waits, ap (λ (l : List ℕ). length l) call.outcome.1.line);
      end = record { line = line; waiting = meets.none_waits; end = meets.end };
      counts = call.counts ∙ passing.counts;
      step = record { states = passing.states; last = cur; passes = passing.passes; ends = (none, call) };
      memory = tt;
    }

-- ---- a refusal

refused_bound : {B : Type 0} (supply : Supply B) (cur new : Reader B) (why : Error) → reader_limit new ≡ reader_limit cur → reader_passed new ≡ 0 → LineOutcome supply cur (Err why) new
    → reader_bound new ≤ reader_bound cur
refused_bound supply cur new (TooShort progress) limit passed outcome = absurd outcome
refused_bound supply cur new Leftovers limit passed outcome = absurd outcome
refused_bound supply cur new ParseError limit passed outcome = absurd outcome
refused_bound supply cur new (IoError ReadFault) limit passed outcome =
    let w : reader_taken new ≤ reader_limit new = new.within in
    omega (arith, limit, w, outcome.0.taken, ap (λ (l : List ℕ). length l) outcome.0.waits, length-append (reader_waiting cur) outcome.0.got, ap (λ (l : List ℕ). length l) outcome.3.line)
refused_bound supply cur new (IoError NotUtf8) limit passed outcome =
    let w : reader_taken new ≤ reader_limit new = new.within in
    let takes = outcome.0.1 in
    omega (arith, limit, w, takes.taken, ap (λ (l : List ℕ). length l) takes.cut, length-append (reader_waiting cur) takes.got, length-append outcome.0.0 (reader_waiting new), ap (λ (l : List ℕ). length l) outcome.1.line)
refused_bound supply cur new (IoError TooLong) limit passed outcome =
    let w : reader_taken new ≤ reader_limit new = new.within in
    omega (arith, limit, w, outcome.0.taken, ap (λ (l : List ℕ). length l) outcome.0.waits, length-append (reader_waiting cur) outcome.0.got, ap (λ (l : List ℕ). length l) outcome.1.line)
refused_bound supply cur new (IoError CannotOpen) limit passed outcome = absurd outcome
refused_bound supply cur new NoMemory limit passed outcome =
    let w : reader_taken new ≤ reader_limit new = new.within in
    omega (arith, limit, w, outcome.0.taken, ap (λ (l : List ℕ). length l) outcome.0.waits, length-append (reader_waiting cur) outcome.0.got, ap (λ (l : List ℕ). length l) outcome.1.line)

abbrev Counts : Type 0
Counts = IoFault → ℕ

refused_counts : (old mid new : Counts) (why : Error) → mid ≡ old → CountsNext {T = Bool} mid (Err why) new → CountsNext {T = Option (List ℕ)} old (Err why) new
refused_counts old mid new (TooShort progress) is counts = counts
refused_counts old mid new Leftovers is counts = counts
refused_counts old mid new ParseError is counts = counts
refused_counts old mid new (IoError fault) is counts = subst (λ (c : Counts). CountsNext {T = Bool} c (Err (IoError fault)) new) is counts
refused_counts old mid new NoMemory is counts = counts ∙ is

pub refused_call : {B : Type 0} (supply : Supply B) (old cur new : Reader B) (why : Error)
    → Passing supply old cur → words_in_line cur ≡ [] → LineCall supply cur (Err why) new → NextCall (reader_stream supply) old (Err why) new
refused_call supply old cur new why passing none call = record {
  words = takes_told (reader_left supply old) (Err why) (reader_left supply new) (λ all is. tt);
  bound = let low = refused_bound supply cur new why call.limit call.passed call.outcome in omega (arith, passing.bound, low);
  end = tt;
  counts = refused_counts (reader_faults supply old) (reader_faults supply cur) (reader_faults supply new) why passing.counts call.counts;
  step = record { states = passing.states; last = cur; passes = passing.passes; ends = (none, call) };
  memory = λ _. refl;
}

-- the look found no word, and changed nothing
pub looked : {B : Type 0} (supply : Supply B) (old cur new : Reader B)
    → Passing supply old cur → LooksInLine cur None new → Passing supply old new × (words_in_line new ≡ [])
looked supply old cur new passing look =
    (subst (λ r. Passing supply old r) (sym look.1) passing, subst (λ r. words_in_line r ≡ []) (sym look.1) look.0)

pub line_read : {B : Type 0} (supply : Supply B) (cur : Reader B) (found is : Bool) (next : Reader B)
    → found ≡ is → LineCall supply cur (Ok found) next → LineCall supply cur (Ok is) next
line_read supply cur found is next same call = subst (λ b. LineCall supply cur (Ok b) next) same call
