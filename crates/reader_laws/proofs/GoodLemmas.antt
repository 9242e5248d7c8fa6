-- What a reader does over good input.
use Rattle.std.proofs.Common.{◌≡◌, ◌≢◌, ◌≤◌, ◌<◌, ◌+◌, ◌-◌, ◌++◌, ℕ, Bool, true, false, List, [], ◌∷◌, length, Option, Some, None, Result, Ok, Err, refl, sym, ap, subst, ◌∙◌, arith, inl, inr, append_assoc, length-append}
use Rattle.std.specs.Str.{IsUtf8}
use Rattle.std.specs.List.{All}
use Rattle.std.specs.Io.KnownBytes.{Consumes, IsAtEnd}
use Rattle.std.proofs.lemmas.List.Elements.{All-head, All-tail}
use Rattle.edge_io.specs.Ends.{Rises, last_count}
use Rattle.edge_io.specs.Supply.{Supply, Gave}
use Rattle.whiteread.specs.Lines.{lines_of, HasNoFeed, IsFirstLine, without_feed}
use Rattle.whiteread.specs.Stream.{Answer}
use Rattle.whiteread.specs.Reading.{Reading, ReadCall, Reached, Reaches}
use Rattle.whiteread.specs.Located.{Located, IsTold, inner_answer}
use Rattle.whiteread.specs.LineCall.{LineCall, TakesLine, Waits, MeetsEnd, PassesLimit, probe_len}
use Rattle.whiteread.specs.ReaderState.{reader_source, reader_limit, reader_taken, reader_waiting, reader_line, reader_faults, StaysInLine}
use Rattle.whiteread.specs.ReaderState.ReaderWords.{reader_stream, ReaderStep, EndsStep, PassesLines}
use Rattle.whiteread.specs.declared.reader.Reader.{Reader}
use Rattle.whiteread.specs.declared.stream.error.Error.{Error}
use Rattle.whiteread.specs.declared.stream.error.Error.TheVariants.{TooShort, Leftovers, ParseError, IoError, NoMemory}
use Rattle.whiteread.specs.declared.stream.error.IoFault.{IoFault}
use Rattle.whiteread.specs.declared.stream.error.IoFault.TheVariants.{ReadFault, NotUtf8, TooLong, CannotOpen}
use Rattle.whiteread.specs.Reading.Reach.{reached_read}
use Rattle.reader_laws.specs.Good.{IsGood, ContinuesGood, MeetsNoFault}
use Rattle.whiteread.specs.Lines.Laws.{BeginsLines, first_line}

-- ---- bytes that are told

-- What is left after some told bytes were taken.
record Taken (new : Option (List ℕ)) (bytes got : List ℕ) : Type 0 where
  after : List ℕ
  told : new ≡ Some after
  split : bytes ≡ got ++ after

taken : (known new : Option (List ℕ)) (bytes got : List ℕ) → known ≡ Some bytes → Consumes known new got → Taken new bytes got
taken None new bytes got told gave = absurd (let e = told in cc)
taken (Some xs) None bytes got told gave = absurd gave
taken (Some xs) (Some ys) bytes got told gave =
    let same : xs ≡ bytes = let e = told in cc in
    record { after = ys; told = refl; split = sym same ∙ gave }

none_after : (known : Option (List ℕ)) (after : List ℕ) → known ≡ Some after → IsAtEnd known → after ≡ []
none_after None after told end = absurd (let e = told in cc)
none_after (Some xs) after told end = let same : xs ≡ after = let e = told in cc in sym same ∙ end

-- ---- a line

-- The input is still good, and no fault but a failed read was met.
pub record Kept {B : Type 0} (supply : Supply B) (old new : Reader B) : Type 0 where
  pub good : IsGood supply new
  pub same : (fault : IoFault) → fault ≢ ReadFault → reader_faults supply new fault ≡ reader_faults supply old fault

kept_none : {B : Type 0} (supply : Supply B) (r : Reader B) → IsGood supply r → Kept supply r r
kept_none supply r good = record { good = good; same = λ fault other. refl }

kept_then : {B : Type 0} (supply : Supply B) (old mid new : Reader B) → Kept supply old mid → Kept supply mid new → Kept supply old new
kept_then supply old mid new one two = record { good = two.good; same = λ fault other. two.same fault other ∙ one.same fault other }

gives : {B : Type 0} (supply : Supply B) (old new : Reader B) (got : List ℕ) → (good : IsGood supply old) → Gave supply (reader_source old) (reader_source new) got
    → Taken (supply.rest (reader_source new)) good.bytes got
gives supply old new got good gave = taken (supply.rest (reader_source old)) (supply.rest (reader_source new)) good.bytes got good.told gave.bytes

fits : {B : Type 0} (old new : Reader B) (bytes got after : List ℕ) → length bytes ≤ reader_limit old - reader_taken old → bytes ≡ got ++ after
    → reader_taken new ≡ reader_taken old + length got → reader_limit new ≡ reader_limit old → length after ≤ reader_limit new - reader_taken new
fits old new bytes got after within split taken limit =
    omega (arith, within, ap (λ (l : List ℕ). length l) split, length-append got after, taken, limit)

waits_good : {B : Type 0} (supply : Supply B) (old new : Reader B) → IsGood supply old → Waits supply old new → reader_limit new ≡ reader_limit old → IsGood supply new
waits_good supply old new good waits limit =
    let left = gives supply old new waits.got good waits.gave in
    let ahead : reader_waiting new ++ left.after ≡ reader_waiting old ++ good.bytes =
    ap (λ (l : List ℕ). l ++ left.after) waits.waits ∙ append_assoc (reader_waiting old) waits.got left.after ∙ ap (λ (l : List ℕ). reader_waiting old ++ l) (sym left.split) in
    record {
      bytes = left.after;
      told = left.told;
      within = fits old new good.bytes waits.got left.after good.within left.split waits.taken limit;
      not_past = waits.past ∙ good.not_past;
      utf8 = subst (λ (l : List ℕ). All IsUtf8 (lines_of l)) (sym ahead) good.utf8;
    }

end_good : {B : Type 0} (supply : Supply B) (old new : Reader B) → IsGood supply old → MeetsEnd supply old new → reader_limit new ≡ reader_limit old → IsGood supply new
end_good supply old new good meets limit =
    let left = gives supply old new [] good meets.gave in
    let ahead : reader_waiting new ++ left.after ≡ reader_waiting old ++ good.bytes =
    ap (λ (l : List ℕ). l ++ left.after) (meets.none_waits ∙ sym meets.none_waited) ∙ ap (λ (l : List ℕ). reader_waiting old ++ l) (sym left.split) in
    record {
      bytes = left.after;
      told = left.told;
      within = omega (arith, good.within, ap (λ (l : List ℕ). length l) left.split, meets.taken, limit);
      not_past = meets.past;
      utf8 = subst (λ (l : List ℕ). All IsUtf8 (lines_of l)) (sym ahead) good.utf8;
    }

-- A line was taken: what is ahead is still good, and the line is UTF-8.
record Took {B : Type 0} (supply : Supply B) (new : Reader B) (line : List ℕ) : Type 0 where
  good : IsGood supply new
  utf8 : IsUtf8 line

took : {B : Type 0} (supply : Supply B) (old new : Reader B) (line : List ℕ) → IsGood supply old → TakesLine supply old new line → reader_limit new ≡ reader_limit old
    → Took supply new line
took supply old new line good takes limit =
    let left = gives supply old new takes.got good takes.gave in
    let waiting = reader_waiting new in
    let first : IsFirstLine line (waiting ++ left.after) = stands takes.first left.after (λ plain. none_after (supply.rest (reader_source new)) left.after left.told (takes.unended plain)) in
    let begins : BeginsLines line (waiting ++ left.after) = first_line line (waiting ++ left.after) first in
    let ahead : reader_waiting old ++ good.bytes ≡ line ++ (waiting ++ left.after) =
    ap (λ (l : List ℕ). reader_waiting old ++ l) left.split ∙ sym (append_assoc (reader_waiting old) takes.got left.after)
    ∙ ap (λ (l : List ℕ). l ++ left.after) takes.cut ∙ append_assoc line waiting left.after in
    let lines : All IsUtf8 (without_feed line ∷ lines_of (waiting ++ left.after)) = subst (All IsUtf8) (ap lines_of ahead ∙ begins.lines) good.utf8 in
    record {
      good = record {
        bytes = left.after;
        told = left.told;
        within = fits old new good.bytes takes.got left.after good.within left.split takes.taken limit;
        not_past = takes.past;
        utf8 = All-tail IsUtf8 (without_feed line) (lines_of (waiting ++ left.after)) lines;
      };
      utf8 = begins.utf8.1 (All-head IsUtf8 (without_feed line) (lines_of (waiting ++ left.after)) lines);
    } where
      stands : {line waiting : List ℕ} → IsFirstLine line waiting → (after : List ℕ) → (HasNoFeed line → after ≡ []) → IsFirstLine line (waiting ++ after)
      stands (inl whole) after none = inl whole
      stands {line} {waiting} (inr last) after none = inr (last.0, ap (λ (l : List ℕ). l ++ after) last.1 ∙ none last.0.1)

never_past : {B : Type 0} (supply : Supply B) (old new : Reader B) → IsGood supply old → PassesLimit supply old new → reader_limit new ≡ reader_limit old → ⊥
never_past supply old new good passes limit =
    let left = gives supply old new (passes.got ++ passes.probe) good passes.gave in
    let one : length passes.probe ≡ 1 = passes.probed ∙ ap probe_len good.not_past in
    omega (
      arith,
      good.within,
      ap (λ (l : List ℕ). length l) left.split,
      length-append (passes.got ++ passes.probe) left.after,
      length-append passes.got passes.probe,
      one,
      passes.taken,
      passes.full,
      limit,
    )

line_keeps : {B : Type 0} (supply : Supply B) (old : Reader B) (answer : Result Bool Error) (new : Reader B) → IsGood supply old
    → LineCall supply old answer new → Kept supply old new
line_keeps supply old (Ok true) new good call = record {
  good = (took supply old new (reader_line new) good call.outcome.0 call.limit).good;
  same = λ fault other. ap (λ (f : IoFault → ℕ). f fault) call.counts;
}
line_keeps supply old (Ok false) new good call = record {
  good = end_good supply old new good call.outcome.0 call.limit;
  same = λ fault other. ap (λ (f : IoFault → ℕ). f fault) call.counts;
}
line_keeps supply old (Err (TooShort progress)) new good call = absurd call.outcome
line_keeps supply old (Err Leftovers) new good call = absurd call.outcome
line_keeps supply old (Err ParseError) new good call = absurd call.outcome
line_keeps supply old (Err (IoError ReadFault)) new good call = record {
  good = waits_good supply old new good call.outcome.0 call.limit;
  same = λ fault other. call.counts.others fault other;
}
line_keeps supply old (Err (IoError NotUtf8)) new good call =
    let bad = call.outcome.0 in absurd (bad.2 (took supply old new bad.0 good bad.1 call.limit).utf8)
line_keeps supply old (Err (IoError TooLong)) new good call = absurd (never_past supply old new good call.outcome.0 call.limit)
line_keeps supply old (Err (IoError CannotOpen)) new good call = absurd call.outcome
line_keeps supply old (Err NoMemory) new good call = record {
  good = waits_good supply old new good call.outcome.0 call.limit;
  same = λ fault other. ap (λ (f : IoFault → ℕ). f fault) call.counts;
}

-- ---- a word, and a value

lines_keep : {B : Type 0} (supply : Supply B) (old : Reader B) (states : List (Reader B)) (last : Reader B) → IsGood supply old
    → PassesLines supply old states last → Kept supply old last
lines_keep supply old [] last good passes = subst (λ r. Kept supply old r) (sym passes) (kept_none supply old good)
lines_keep supply old (next ∷ more) last good passes =
    let one = line_keeps supply old (Ok true) next good passes.1 in
    kept_then supply old next last one (lines_keep supply next more last one.good passes.2)

stays_kept : {B : Type 0} (supply : Supply B) (old new : Reader B) → IsGood supply old → StaysInLine old new → Kept supply old new
stays_kept supply old new good stays = record {
  good = record {
    bytes = good.bytes;
    told = ap supply.rest stays.source ∙ good.told;
    within = omega (arith, good.within, stays.limit, stays.taken);
    not_past = stays.past ∙ good.not_past;
    utf8 = subst (λ (l : List ℕ). All IsUtf8 (lines_of (l ++ good.bytes))) (sym stays.waiting) good.utf8;
  };
  same = λ fault other. ap (λ (f : IoFault → ℕ). f fault) (stays.faults supply);
}

ends_keep : {B : Type 0} (supply : Supply B) (last : Reader B) (answer : Answer) (new : Reader B) → IsGood supply last
    → EndsStep supply last answer new → Kept supply last new
ends_keep supply last (Ok (Some word)) new good ends = stays_kept supply last new good ends.1
ends_keep supply last (Ok None) new good ends = line_keeps supply last (Ok false) new good ends.1
ends_keep supply last (Err why) new good ends = line_keeps supply last (Err why) new good ends.1

step_keeps : {B : Type 0} (supply : Supply B) (old : Reader B) (answer : Answer) (new : Reader B) → IsGood supply old
    → ReaderStep supply old answer new → Kept supply old new
step_keeps supply old answer new good step =
    let one = lines_keep supply old step.states step.last good step.passes in
    kept_then supply old step.last new one (ends_keep supply step.last answer new one.good step.ends)

steps_keep : {B : Type 0} (supply : Supply B) (old : Reader B) (streams : List (Reader B)) (new : Reader B) → IsGood supply old
    → Reaches (ReaderStep supply) old streams new → Kept supply old new
steps_keep supply old [] new good steps = subst (λ r. Kept supply old r) (sym steps) (kept_none supply old good)
steps_keep supply old (next ∷ more) new good steps =
    let one = step_keeps supply old steps.0.0 next good steps.0.1 in
    kept_then supply old next new one (steps_keep supply next more new one.good steps.1)

no_rise : (old new : ℕ) → Rises old new → old < last_count → new ≡ old → ⊥
no_rise old new rises below same = let higher = rises.higher (omega (arith, below, same)) in omega (arith, higher, same)

same_count : {B : Type 0} (supply : Supply B) (old new : Reader B) (fault : IoFault) → Kept supply old new → supply.faults (reader_source new) ≡ supply.faults (reader_source old)
    → reader_faults supply new fault ≡ reader_faults supply old fault
same_count supply old new ReadFault kept held = held
same_count supply old new NotUtf8 kept held = kept.same NotUtf8 (λ e. absurd (cc))
same_count supply old new TooLong kept held = kept.same TooLong (λ e. absurd (cc))
same_count supply old new CannotOpen kept held = refl

abbrev refusal : {T : Type 0} → Located → Result T Error
refusal error = Err error.error

-- a told answer is by the call, if memory for its text was there
pub told_inner : {T : Type 0} (cheap : Bool) (answer : Result T Error) (row passed : ℕ) (line : List ℕ) (result : Result T Located)
    → IsTold cheap answer row passed line result → inner_answer result ≢ Err NoMemory → answer ≡ inner_answer result
told_inner cheap (Ok value) row passed line result told room = sym (ap inner_answer told)
told_inner {T} cheap (Err why) row passed line result told room =
    let inner : inner_answer result ≡ refusal told.0 = ap inner_answer told.1 in
    elim told.2 as (λ _. Err why ≡ inner_answer result) [
      | inl is ↦ ap (refusal {T = T}) (sym is) ∙ sym inner
      | inr short ↦ absurd (room (inner ∙ ap (refusal {T = T}) short.1))
    ]

pub no_fault : {B T : Type 0} (supply : Supply B) (reading : Reading T) (cheap : Bool) → MeetsNoFault (ContinuesGood supply reading cheap)
no_fault {B} {T} supply reading cheap words result fault reads is =
    let call = reads.told in
    let room : inner_answer result ≢ Err NoMemory = λ none. let e = sym is ∙ none in cc in
    let faulty : call.answer ≡ Err (IoError fault) = told_inner cheap call.answer _ _ _ result call.told room ∙ is in
    let called : ReadCall (reader_stream supply) reading reads.old (Err (IoError fault)) reads.new =
    subst (λ (a : Result T Error). ReadCall (reader_stream supply) reading reads.old a reads.new) faulty call.called in
    let reached : Reached (ReaderStep supply) reads.old reads.new = reached_read (reader_stream supply) reading reads.old (Err (IoError fault)) reads.new called in
    let kept = steps_keep supply reads.old reached.streams reads.new reads.good reached.steps in
    no_rise (reader_faults supply reads.old fault) (reader_faults supply reads.new fault) called.counts.rose (reads.counting fault) (same_count supply reads.old reads.new fault kept reads.held)
