-- The reading of a line, step by step.
use Rattle.std.proofs.Common.{◌≡◌, ◌≤◌, ◌<◌, ◌+◌, ◌-◌, ℕ, Bool, true, false, List, [], ◌∷◌, ◌++◌, length, drop, take, Option, Some, None, Result, Ok, Err, refl, sym, ◌∙◌, ap, subst, inl, inr, ◌⊎◌, ⊎_elim, arith, add-zero, append-nil, append_assoc, get_or, not, ◌==◌, length-append, length-drop, take_all}
use Rattle.std.specs.Prelude.{IsUtf8, IsCharBoundary, MatchBool}
use Rattle.std.proofs.lemmas.Str.{IsCharBoundary-start, IsUtf8-nil}
use Rattle.std.proofs.lemmas.List.Elements.{All-drop}
use Rattle.std.specs.Io.KnownBytes.{IsAtEnd}
use Rattle.std.proofs.lemmas.Bool.{false≢true}
use Rattle.std.proofs.lemmas.List.{drop_all, get_or_append_left}
use Rattle.std.proofs.Math.Seq.{take-append_seam}
use Rattle.edge_io.specs.Ends.{Rises}
use Rattle.edge_io.specs.Supply.{Supply, Gave}
use Rattle.edge_io.specs.Supply.Laws.{gave_none, gave_more}
use Rattle.whiteread.specs.Lines.{HasNoFeed, IsWhole, line_feed}
use Rattle.whiteread.specs.Stream.{CountsNext, OneRises}
use Rattle.whiteread.specs.ReaderState.{reader_source, reader_taken, reader_past, reader_waiting, reader_faults, fault_counts, ShowsSame}
use Rattle.whiteread.specs.LineCall.{Waits, MeetsEnd, PassesLimit, probe_len}
use Rattle.whiteread.specs.Inner.LineSteps.{KeepsLine, AwaitRefusal, StepCall, PieceCall, AwaitCall}
use Rattle.whiteread.specs.declared.reader.Reader.{Reader}
use Rattle.whiteread.specs.declared.stream.error.Error.{Error}
use Rattle.whiteread.specs.declared.stream.error.Error.TheVariants.{TooShort, Leftovers, ParseError, IoError, NoMemory}
use Rattle.whiteread.specs.declared.stream.error.IoFault.{IoFault}
use Rattle.whiteread.specs.declared.stream.error.IoFault.TheVariants.{ReadFault, NotUtf8, TooLong, CannotOpen}
use Rattle.whiteread.proofs.LineLemmas.{whole_longer}

pub waits_more : {B : Type 0} (supply : Supply B) (old mid new : Reader B) → Waits supply old mid → Waits supply mid new → Waits supply old new
waits_more supply old mid new a b = record {
  got = a.got ++ b.got;
  gave = gave_more supply _ _ _ a.got b.got a.gave b.gave;
  taken = omega (arith, a.taken, b.taken, length-append a.got b.got);
  waits = b.waits ∙ ap (λ l. l ++ b.got) a.waits ∙ append_assoc (reader_waiting old) a.got b.got;
  past = b.past ∙ a.past;
}

pub passes_more : {B : Type 0} (supply : Supply B) (old mid new : Reader B) → Waits supply old mid → PassesLimit supply mid new → PassesLimit supply old new
passes_more supply old mid new a b = record {
  got = a.got ++ b.got;
  probe = b.probe;
  gave = subst (λ (l : List ℕ). Gave supply (reader_source old) (reader_source new) l) (sym (append_assoc a.got b.got b.probe)) (gave_more supply _ _ _ a.got (b.got ++ b.probe) a.gave b.gave);
  taken = omega (arith, a.taken, b.taken, length-append a.got b.got);
  full = b.full;
  probed = b.probed ∙ ap probe_len a.past;
  waits = b.waits ∙ ap (λ l. l ++ b.got) a.waits ∙ append_assoc (reader_waiting old) a.got b.got;
  no_line = b.no_line;
  past = b.past;
}

refusal_more : {B : Type 0} (supply : Supply B) (old mid : Reader B) (why : Error) (new : Reader B) → Waits supply old mid → AwaitRefusal supply mid why new → AwaitRefusal supply old why new
refusal_more supply old mid (TooShort progress) new a b = b
refusal_more supply old mid Leftovers new a b = b
refusal_more supply old mid ParseError new a b = b
refusal_more supply old mid (IoError ReadFault) new a b = (waits_more supply old mid new a b.0, b.1, sym a.past ∙ b.2)
refusal_more supply old mid (IoError NotUtf8) new a b = b
refusal_more supply old mid (IoError TooLong) new a b = passes_more supply old mid new a b
refusal_more supply old mid (IoError CannotOpen) new a b = b
refusal_more supply old mid NoMemory new a b = waits_more supply old mid new a b

pub counts_refusal : (T U : Type 0) (old : IoFault → ℕ) (why : Error) (new : IoFault → ℕ) → CountsNext {T = T} old (Err why) new → CountsNext {T = U} old (Err why) new
counts_refusal T U old (TooShort progress) new counts = counts
counts_refusal T U old Leftovers new counts = counts
counts_refusal T U old ParseError new counts = counts
counts_refusal T U old (IoError fault) new counts = counts
counts_refusal T U old NoMemory new counts = counts

pub keeps_more : {B : Type 0} (supply : Supply B) (old mid new : Reader B) → KeepsLine supply old mid → KeepsLine supply mid new → KeepsLine supply old new
keeps_more supply old mid new a b = record {
  line = b.line ∙ a.line;
  passed = b.passed ∙ a.passed;
  row = b.row ∙ a.row;
  limit = b.limit ∙ a.limit;
  same_reference = b.same_reference ∙ a.same_reference;
}

front_no_feed : (xs ys zs : List ℕ) → zs ≡ xs ++ ys → HasNoFeed zs → HasNoFeed xs
front_no_feed xs ys zs is none = λ k d lt.
    let same : get_or zs k d ≡ get_or xs k d = ap (λ l. get_or l k d) is ∙ get_or_append_left xs ys d k lt in
    ap (λ x. not (x == line_feed)) (sym same) ∙ none k d (omega (arith, lt, ap length is, length-append xs ys))

front_of : (xs zs ys : List ℕ) → zs ≡ xs ++ ys → take (length xs) zs ≡ xs
front_of xs zs ys is = ap (take (length xs)) is ∙ take-append_seam xs ys

none_of : (xs : List ℕ) → length xs ≡ 0 → xs ≡ []
none_of [] h = refl
none_of (x ∷ xs) h = absurd (omega (arith, h))

false_of : (b : Bool) → (b ≡ true → ⊥) → b ≡ false
false_of true h = absurd (h refl)
false_of false h = refl

-- some pieces were read, and no line was found before the last of them
pub record Reads {B : Type 0} (supply : Supply B) (old mid : Reader B) : Type 0 where
  pub waits : Waits supply old mid
  pub free : ℕ
  pub seen : HasNoFeed (take free (reader_waiting mid))
  pub few : length (reader_waiting old) < length (reader_waiting mid) → length (reader_waiting mid) ≤ free + 4096
  pub counts : reader_faults supply mid ≡ reader_faults supply old
  pub unread : (reader_source mid ≡ reader_source old) ⊎ (HasNoFeed (reader_waiting old) × (reader_past old ≡ false))
  pub kept : KeepsLine supply old mid

pub reads_none : {B : Type 0} (supply : Supply B) (old : Reader B) → Reads supply old old
reads_none supply old = record {
  waits = record { got = []; gave = gave_none supply (reader_source old); taken = sym (add-zero (reader_taken old)); waits = sym (append-nil (reader_waiting old)); past = refl };
  free = 0;
  seen = λ k d lt. absurd (omega (arith, lt));
  few = λ more. absurd (omega (arith, more));
  counts = refl;
  unread = inl refl;
  kept = record { line = refl; passed = refl; row = refl; limit = refl; same_reference = refl };
}

-- a search changes nothing that a reader shows
pub reads_searched : {B : Type 0} (supply : Supply B) (old mid new : Reader B) → Reads supply old mid → ShowsSame mid new → Reads supply old new
reads_searched {B} supply old mid new r same =
    let s = same.stays in record {
      waits = record {
        got = r.waits.got;
        gave = subst (λ (x : B). Gave supply (reader_source old) x r.waits.got) (sym s.source) r.waits.gave;
        taken = s.taken ∙ r.waits.taken;
        waits = s.waiting ∙ r.waits.waits;
        past = s.past ∙ r.waits.past;
      };
      free = r.free;
      seen = subst (λ (l : List ℕ). HasNoFeed (take r.free l)) (sym s.waiting) r.seen;
      few = λ more. let long = ap length s.waiting in let few = r.few (omega (arith, more, long)) in omega (arith, few, long);
      counts = s.faults supply ∙ r.counts;
      unread = ⊎_elim (λ (e : reader_source mid ≡ reader_source old). inl (s.source ∙ e)) (λ (h : HasNoFeed (reader_waiting old) × (reader_past old ≡ false)). inr h) r.unread;
      kept = record { line = s.line ∙ r.kept.line; passed = same.passed ∙ r.kept.passed; row = s.row ∙ r.kept.row; limit = s.limit ∙ r.kept.limit; same_reference = ap supply.reference s.source ∙ r.kept.same_reference };
    }

pub reads_more : {B : Type 0} (supply : Supply B) (old mid new : Reader B) → Reads supply old mid → HasNoFeed (reader_waiting mid) → PieceCall supply mid (Ok true) new → Reads supply old new
reads_more supply old mid new r none piece = record {
  waits = waits_more supply old mid new r.waits piece.outcome.0;
  free = length (reader_waiting mid);
  seen = subst HasNoFeed (sym (front_of _ _ piece.outcome.0.got piece.outcome.0.waits)) none;
  few = λ _. omega (arith, piece.outcome.1);
  counts = piece.step.counts ∙ r.counts;
  unread = inr (front_no_feed _ r.waits.got _ r.waits.waits none, sym r.waits.past ∙ piece.outcome.3);
  kept = keeps_more supply old mid new r.kept piece.step.kept;
}

step_more : {B : Type 0} (supply : Supply B) (old mid new : Reader B) (T : Type 0) (answer : Result T Error) → Reads supply old mid → StepCall supply mid answer new → StepCall supply old answer new
step_more supply old mid new T answer r step = record {
  counts = subst (λ (f : IoFault → ℕ). CountsNext f answer (reader_faults supply new)) r.counts step.counts;
  stays_past = λ past. step.stays_past (r.waits.past ∙ past);
  kept = keeps_more supply old mid new r.kept step.kept;
}

lazy_more : {B : Type 0} (supply : Supply B) (old mid new : Reader B) → Reads supply old mid → HasNoFeed (reader_waiting mid) → (reader_past mid ≡ true → reader_source new ≡ reader_source mid)
    → (¬ HasNoFeed (reader_waiting old)) ⊎ (reader_past old ≡ true) → reader_source new ≡ reader_source old
lazy_more supply old mid new r none lazy =
    ⊎_elim (λ (not : ¬ HasNoFeed (reader_waiting old)). absurd (not (front_no_feed _ r.waits.got _ r.waits.waits none)))
    (λ (past : reader_past old ≡ true). ⊎_elim (λ (e : reader_source mid ≡ reader_source old). lazy (r.waits.past ∙ past) ∙ e) (λ (h : HasNoFeed (reader_waiting old) × (reader_past old ≡ false)). absurd (false≢true (sym h.1 ∙ past))) r.unread)

-- no piece was had
pub await_refused : {B : Type 0} (supply : Supply B) (old mid new : Reader B) (why : Error) → Reads supply old mid → HasNoFeed (reader_waiting mid) → PieceCall supply mid (Err why) new → AwaitCall supply old (Err why) new
await_refused supply old mid new why r none piece = record {
  outcome = refusal_more supply old mid why new r.waits piece.outcome;
  step =
      let s = step_more supply old mid new Bool (Err why) r piece.step in
      record { counts = counts_refusal Bool (Option ℕ) _ why _ s.counts; stays_past = s.stays_past; kept = s.kept };
  lazy = lazy_more supply old mid new r none piece.lazy;
}

step_ok : {B T U : Type 0} (supply : Supply B) (old new : Reader B) (first : T) (second : U) → StepCall supply old (Ok first) new → StepCall supply old (Ok second) new
step_ok supply old new first second s = record { counts = s.counts; stays_past = s.stays_past; kept = s.kept }

end_of : {B : Type 0} (supply : Supply B) (old new : Reader B) → Waits supply old new → length (reader_waiting new) ≡ 0 → IsAtEnd (supply.rest (reader_source new)) → reader_past old ≡ false → MeetsEnd supply old new
end_of supply old new w empty end within =
    let sum : length (reader_waiting new) ≡ length (reader_waiting old) + length w.got = ap length w.waits ∙ length-append (reader_waiting old) w.got in
    let got : w.got ≡ [] = none_of w.got (omega arith) in record {
      gave = subst (λ (l : List ℕ). Gave supply (reader_source old) (reader_source new) l) got w.gave;
      taken = omega (arith, w.taken, sum, empty);
      none_waited = none_of (reader_waiting old) (omega arith);
      none_waits = none_of (reader_waiting new) empty;
      end = end;
      past = w.past ∙ within;
    }

-- the input has ended, and nothing waits
pub await_end : {B : Type 0} (supply : Supply B) (old mid new : Reader B) → Reads supply old mid → HasNoFeed (reader_waiting mid) → PieceCall supply mid (Ok false) new
    → length (reader_waiting new) ≡ 0 → AwaitCall supply old (Ok None) new
await_end supply old mid new r none piece empty = record {
  outcome = end_of supply old new (waits_more supply old mid new r.waits piece.outcome.0) empty piece.outcome.2 (sym r.waits.past ∙ piece.outcome.3);
  step = step_ok supply old new false None (step_more supply old mid new Bool (Ok false) r piece.step);
  lazy = lazy_more supply old mid new r none piece.lazy;
}

-- the input has ended, and what waits is the last line
pub await_last : {B : Type 0} (supply : Supply B) (old mid new : Reader B) → Reads supply old mid → HasNoFeed (reader_waiting mid) → PieceCall supply mid (Ok false) new
    → (len : ℕ) → len ≡ length (reader_waiting new) → 0 < len → AwaitCall supply old (Ok (Some len)) new
await_last supply old mid new r none piece len is some =
    let all : take len (reader_waiting new) ≡ reader_waiting new = take_all len (reader_waiting new) (omega arith) in
    let left : drop len (reader_waiting new) ≡ [] = drop_all len (reader_waiting new) (omega arith) in
    let free : HasNoFeed (take len (reader_waiting new)) = subst HasNoFeed (sym (all ∙ piece.outcome.1)) none in
    record {
      outcome = (
        waits_more supply old mid new r.waits piece.outcome.0,
        record { within = omega arith; first = inr ((omega (arith, ap length all), free), left); unended = λ _. piece.outcome.2; few = λ _. omega (arith, ap length left) },
        sym r.waits.past ∙ piece.outcome.3,
      );
      step = step_ok supply old new false (Some len) (step_more supply old mid new Bool (Ok false) r piece.step);
      lazy = lazy_more supply old mid new r none piece.lazy;
    }

-- a whole line waits
pub await_whole : {B : Type 0} (supply : Supply B) (old mid : Reader B) → Reads supply old mid → (reader_past mid ≡ true → HasNoFeed (reader_waiting mid))
    → (len : ℕ) → len ≤ length (reader_waiting mid) → IsWhole (take len (reader_waiting mid)) → AwaitCall supply old (Ok (Some len)) mid
await_whole supply old mid r no_line len within whole =
    let longer : (free : ℕ) → HasNoFeed (take free (reader_waiting mid)) → free < len = λ free none. whole_longer (reader_waiting mid) len free whole none within in
    let none_all : HasNoFeed (reader_waiting mid) → ⊥ = λ none.
    let all : take (length (reader_waiting mid)) (reader_waiting mid) ≡ reader_waiting mid = take_all _ (reader_waiting mid) (omega arith) in
    let more : length (reader_waiting mid) < len = longer (length (reader_waiting mid)) (subst HasNoFeed (sym all) none) in
    omega arith in
    let not_past : reader_past old ≡ false = false_of (reader_past old) (λ past. none_all (no_line (r.waits.past ∙ past))) in
    let free : r.free < len = longer r.free r.seen in record {
      outcome = (
        r.waits,
        record { within = within; first = inl whole; unended = λ none. absurd (let more : len < len = longer len none in omega arith); few = λ more. let left : length (drop len (reader_waiting mid)) ≡ length (reader_waiting mid) - len = length-drop len (reader_waiting mid) in let few = r.few more in omega (arith, few, left, free) },
        not_past,
      );
      step = record { counts = r.counts; stays_past = λ past. r.waits.past ∙ past; kept = r.kept };
      lazy = ⊎_elim (λ (e : reader_source mid ≡ reader_source old). λ _. e) (λ (h : HasNoFeed (reader_waiting old) × (reader_past old ≡ false)). λ (given : (¬ HasNoFeed (reader_waiting old)) ⊎ (reader_past old ≡ true)).
          ⊎_elim (λ (not : ¬ HasNoFeed (reader_waiting old)). absurd (not h.0)) (λ (past : reader_past old ≡ true). absurd (false≢true (sym h.1 ∙ past))) given) r.unread;
    }

pub no_feed_rest : (xs : List ℕ) (len : ℕ) (ys : List ℕ) → ys ≡ drop len xs → HasNoFeed xs → HasNoFeed ys
no_feed_rest xs len ys is none = subst HasNoFeed (sym is) (All-drop (λ byte. not (byte == line_feed) ≡ true) len xs none)

-- a text that was put at the end of an empty one may be cut at its start
pub boundary_taken : (is_text : Bool) (line text : List ℕ) (passed : ℕ) → MatchBool is_text (line ≡ text) (line ≡ []) → (is_text ≡ true → IsUtf8 text) → passed ≡ 0 → IsCharBoundary line passed
boundary_taken true line text passed is utf8 none = subst (IsCharBoundary line) (sym none) (IsCharBoundary-start line (subst IsUtf8 (sym is) (utf8 refl)))
boundary_taken false line text passed is utf8 none = subst (IsCharBoundary line) (sym none) (IsCharBoundary-start line (subst IsUtf8 (sym is) IsUtf8-nil))

-- the byte past the limit was met once more, and no other fault
pub too_long_rose : (failed still not_utf8 too_long more : ℕ) → still ≡ failed → Rises too_long more → OneRises TooLong (fault_counts failed not_utf8 too_long) (fault_counts still not_utf8 more)
too_long_rose failed still not_utf8 too_long more same rose = record { rose = rose; others = others } where
  others : (other : IoFault) → (other ≡ TooLong → ⊥) → fault_counts still not_utf8 more other ≡ fault_counts failed not_utf8 too_long other
  others ReadFault ne = same
  others NotUtf8 ne = refl
  others TooLong ne = absurd (ne refl)
  others CannotOpen ne = refl

-- the same lemmas after a search, where the call that is made next says from which state

pub turn_more : {B : Type 0} (supply : Supply B) (old start : Reader B) {mid new : Reader B} (more : Bool) → PieceCall supply mid (Ok more) new → more ≡ true
    → Reads supply old start → HasNoFeed (reader_waiting start) → ShowsSame start mid → Reads supply old new
turn_more supply old start {mid} {new} true piece is r none same =
    reads_more supply old mid new (reads_searched supply old start mid r same) (subst HasNoFeed (sym same.stays.waiting) none) piece
turn_more supply old start {mid} {new} false piece is r none same = absurd (false≢true is)

pub turn_refused : {B : Type 0} (supply : Supply B) (old start : Reader B) {mid new : Reader B} (why : Error) → PieceCall supply mid (Err why) new
    → Reads supply old start → HasNoFeed (reader_waiting start) → ShowsSame start mid → AwaitCall supply old (Err why) new
turn_refused supply old start {mid} {new} why piece r none same =
    await_refused supply old mid new why (reads_searched supply old start mid r same) (subst HasNoFeed (sym same.stays.waiting) none) piece

pub turn_end : {B : Type 0} (supply : Supply B) (old start : Reader B) {mid new : Reader B} (more : Bool) → PieceCall supply mid (Ok more) new → more ≡ false
    → Reads supply old start → HasNoFeed (reader_waiting start) → ShowsSame start mid → length (reader_waiting new) ≡ 0 → AwaitCall supply old (Ok None) new
turn_end supply old start {mid} {new} true piece is r none same empty = absurd (false≢true (sym is))
turn_end supply old start {mid} {new} false piece is r none same empty =
    await_end supply old mid new (reads_searched supply old start mid r same) (subst HasNoFeed (sym same.stays.waiting) none) piece empty

pub turn_last : {B : Type 0} (supply : Supply B) (old start : Reader B) {mid new : Reader B} (more : Bool) → PieceCall supply mid (Ok more) new → more ≡ false
    → Reads supply old start → HasNoFeed (reader_waiting start) → ShowsSame start mid → (len : ℕ) → len ≡ length (reader_waiting new) → 0 < len → AwaitCall supply old (Ok (Some len)) new
turn_last supply old start {mid} {new} true piece is r none same len long some = absurd (false≢true (sym is))
turn_last supply old start {mid} {new} false piece is r none same len long some =
    await_last supply old mid new (reads_searched supply old start mid r same) (subst HasNoFeed (sym same.stays.waiting) none) piece len long some

pub turn_whole : {B : Type 0} (supply : Supply B) (old start mid : Reader B) → Reads supply old start → ShowsSame start mid
    → (len : ℕ) → len ≤ length (reader_waiting start) → IsWhole (take len (reader_waiting start)) → AwaitCall supply old (Ok (Some len)) mid
turn_whole supply old start mid r same len within whole =
    await_whole supply old mid (reads_searched supply old start mid r same) mid.no_line len (omega (arith, within, ap length same.stays.waiting))
    (subst (λ (l : List ℕ). IsWhole (take len l)) (sym same.stays.waiting) whole)
