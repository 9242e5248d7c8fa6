-- The reading of a line from its two steps: a line is awaited, and then taken.
use Rattle.std.proofs.Common.{◌≡◌, ℕ, Bool, true, false, List, [], ◌++◌, length, drop, take, Option, Some, None, Ok, Err, refl, sym, ◌∙◌, ap, subst, inl, inr, ◌⊎◌, ⊎_elim, arith, add-zero, append-nil, take-append-drop, length-append}
use Rattle.std.specs.Prelude.{IsUtf8}
use Rattle.std.specs.Io.KnownBytes.{IsAtEnd}
use Rattle.edge_io.specs.Supply.{Supply, Gave}
use Rattle.edge_io.specs.Supply.Laws.{gave_none}
use Rattle.whiteread.specs.Lines.{HasNoFeed, IsFirstLine}
use Rattle.whiteread.specs.Stream.{CountsNext}
use Rattle.whiteread.specs.ReaderState.{reader_source, reader_limit, reader_taken, reader_past, reader_waiting, reader_line, reader_passed, reader_row, reader_faults}
use Rattle.whiteread.specs.LineCall.{Waits, TakesLine, HasNoLine, LineOutcome, LineCall, next_row}
use Rattle.whiteread.specs.Inner.LineSteps.{AwaitRefusal, HasFirstLine, AwaitCall, TakeCall}
use Rattle.whiteread.specs.declared.reader.Reader.{Reader}
use Rattle.whiteread.specs.declared.stream.error.Error.{Error}
use Rattle.whiteread.specs.declared.stream.error.Error.TheVariants.{TooShort, Leftovers, ParseError, IoError, NoMemory}
use Rattle.whiteread.specs.declared.stream.error.IoFault.{IoFault}
use Rattle.whiteread.specs.declared.stream.error.IoFault.TheVariants.{ReadFault, NotUtf8, TooLong, CannotOpen}
use Rattle.whiteread.proofs.AwaitLemmas.{waits_more, passes_more, counts_refusal}

-- all but the line and its place is the same, and there is no line
pub record Cleared {B : Type 0} (old new : Reader B) : Type 0 where
  pub source : reader_source new ≡ reader_source old
  pub limit : reader_limit new ≡ reader_limit old
  pub taken : reader_taken new ≡ reader_taken old
  pub past : reader_past new ≡ reader_past old
  pub waiting : reader_waiting new ≡ reader_waiting old
  pub row : reader_row new ≡ reader_row old
  pub faults : (supply : Supply B) → reader_faults supply new ≡ reader_faults supply old
  pub line : reader_line new ≡ []
  pub passed : reader_passed new ≡ 0

-- the row is the next, and all else is the same
pub record NextRow {B : Type 0} (old new : Reader B) : Type 0 where
  pub source : reader_source new ≡ reader_source old
  pub limit : reader_limit new ≡ reader_limit old
  pub taken : reader_taken new ≡ reader_taken old
  pub past : reader_past new ≡ reader_past old
  pub waiting : reader_waiting new ≡ reader_waiting old
  pub row : reader_row new ≡ next_row (reader_row old)
  pub faults : (supply : Supply B) → reader_faults supply new ≡ reader_faults supply old
  pub line : reader_line new ≡ reader_line old
  pub passed : reader_passed new ≡ reader_passed old

waits_cleared : {B : Type 0} (supply : Supply B) (old start : Reader B) → Cleared old start → Waits supply old start
waits_cleared {B} supply old start c = record {
  got = [];
  gave = subst (λ (x : B). Gave supply (reader_source old) x []) (sym c.source) (gave_none supply (reader_source old));
  taken = c.taken ∙ sym (add-zero (reader_taken old));
  waits = c.waiting ∙ sym (append-nil (reader_waiting old));
  past = c.past;
}

lazy_cleared : {B : Type 0} (old start mid : Reader B) → Cleared old start → ((¬ HasNoFeed (reader_waiting start)) ⊎ (reader_past start ≡ true) → reader_source mid ≡ reader_source start)
    → (¬ HasNoFeed (reader_waiting old)) ⊎ (reader_past old ≡ true) → reader_source mid ≡ reader_source old
lazy_cleared old start mid c lazy given =
    let same : (¬ HasNoFeed (reader_waiting start)) ⊎ (reader_past start ≡ true) =
    ⊎_elim (λ (waits : ¬ HasNoFeed (reader_waiting old)). inl (λ (none : HasNoFeed (reader_waiting start)). waits (subst HasNoFeed c.waiting none)))
    (λ (past : reader_past old ≡ true). inr (c.past ∙ past)) given in
    lazy same ∙ c.source

refused_outcome : {B : Type 0} (supply : Supply B) (old start : Reader B) (why : Error) (mid : Reader B) → Cleared old start → AwaitRefusal supply start why mid → HasNoLine (reader_row old) mid → LineOutcome supply old (Err why) mid
refused_outcome supply old start (TooShort progress) mid c refusal none = refusal
refused_outcome supply old start Leftovers mid c refusal none = refusal
refused_outcome supply old start ParseError mid c refusal none = refusal
refused_outcome supply old start (IoError ReadFault) mid c refusal none =
    (waits_more supply old start mid (waits_cleared supply old start c) refusal.0, refusal.1, sym c.past ∙ refusal.2, none)
refused_outcome supply old start (IoError NotUtf8) mid c refusal none = absurd refusal
refused_outcome supply old start (IoError TooLong) mid c refusal none = (passes_more supply old start mid (waits_cleared supply old start c) refusal, none)
refused_outcome supply old start (IoError CannotOpen) mid c refusal none = refusal
refused_outcome supply old start NoMemory mid c refusal none = (waits_more supply old start mid (waits_cleared supply old start c) refusal, none)

-- no line was had
pub line_refused : {B : Type 0} (supply : Supply B) (old : Reader B) {start mid : Reader B} (why : Error) → AwaitCall supply start (Err why) mid → Cleared old start → LineCall supply old (Err why) mid
line_refused supply old {start} {mid} why call c =
    let kept = call.step.kept in record {
      outcome = refused_outcome supply old start why mid c call.outcome (record { row = kept.row ∙ c.row; line = kept.line ∙ c.line });
      passed = kept.passed ∙ c.passed;
      counts = subst (λ (f : IoFault → ℕ). CountsNext {T = Bool} f (Err why) (reader_faults supply mid)) (c.faults supply) (counts_refusal (Option ℕ) Bool _ why _ call.step.counts);
      lazy = lazy_cleared old start mid c call.lazy;
      stays_past = λ past. call.step.stays_past (c.past ∙ past);
      limit = kept.limit ∙ c.limit;
      same_reference = kept.same_reference ∙ ap supply.reference c.source;
    }

-- the input had ended
pub line_end : {B : Type 0} (supply : Supply B) (old : Reader B) {start mid : Reader B} (new : Reader B) → AwaitCall supply start (Ok None) mid → Cleared old start → NextRow mid new → LineCall supply old (Ok false) new
line_end {B} supply old {start} {mid} new call c n =
    let kept = call.step.kept in
    let ends = call.outcome in
    let gave : Gave supply (reader_source old) (reader_source new) [] =
    subst (λ (x : B). Gave supply (reader_source old) x []) (sym n.source) (subst (λ (x : B). Gave supply x (reader_source mid) []) c.source ends.gave) in record {
      outcome = (
        record {
          gave = gave;
          taken = n.taken ∙ ends.taken ∙ c.taken;
          none_waited = sym c.waiting ∙ ends.none_waited;
          none_waits = n.waiting ∙ ends.none_waits;
          end = subst (λ (x : B). IsAtEnd (supply.rest x)) (sym n.source) ends.end;
          past = n.past ∙ ends.past;
        },
        record { row = n.row ∙ ap next_row (kept.row ∙ c.row); line = n.line ∙ kept.line ∙ c.line },
      );
      passed = n.passed ∙ kept.passed ∙ c.passed;
      counts = n.faults supply ∙ call.step.counts ∙ c.faults supply;
      lazy = λ h. n.source ∙ lazy_cleared old start mid c call.lazy h;
      stays_past = λ past. n.past ∙ call.step.stays_past (c.past ∙ past);
      limit = n.limit ∙ kept.limit ∙ c.limit;
      same_reference = ap supply.reference n.source ∙ kept.same_reference ∙ ap supply.reference c.source;
    }

-- the line that is the first of what waits
takes_line : {B : Type 0} (supply : Supply B) (old start mid new : Reader B) (len : ℕ) (line : List ℕ) → Waits supply old mid → HasFirstLine supply start mid len → reader_waiting start ≡ reader_waiting old → reader_past old ≡ false
    → reader_source new ≡ reader_source mid → reader_taken new ≡ reader_taken mid → reader_past new ≡ reader_past mid → reader_waiting new ≡ drop len (reader_waiting mid) → line ≡ take len (reader_waiting mid)
    → TakesLine supply old new line
takes_line {B} supply old start mid new len line w f same within source taken past left is = record {
  got = w.got;
  gave = subst (λ (x : B). Gave supply (reader_source old) x w.got) (sym source) w.gave;
  taken = taken ∙ w.taken;
  cut = sym w.waits ∙ sym (take-append-drop len (reader_waiting mid)) ∙ ap (λ l. l ++ drop len (reader_waiting mid)) (sym is) ∙ ap (λ l. line ++ l) (sym left);
  first = subst (λ (l : List ℕ). IsFirstLine l (reader_waiting new)) (sym is) (subst (λ (l : List ℕ). IsFirstLine (take len (reader_waiting mid)) l) (sym left) f.first);
  unended = λ none. subst (λ (x : B). IsAtEnd (supply.rest x)) (sym source) (f.unended (subst HasNoFeed is none));
  few = λ some.
      let long = ap length w.waits in
      let few = f.few (omega (arith, some, long, length-append (reader_waiting old) w.got, ap length same)) in
      omega (arith, few, ap length left);
  past = past ∙ w.past ∙ within;
}

-- a line was taken
pub line_taken : {B T : Type 0} (supply : Supply B) (old : Reader B) {start mid new : Reader B} (len : ℕ) (done : T) → TakeCall supply len mid (Ok done) new → AwaitCall supply start (Ok (Some len)) mid → Cleared old start
    → LineCall supply old (Ok true) new
line_taken supply old {start} {mid} {new} len done take_call call c =
    let kept = call.step.kept in
    let t = take_call.outcome in
    let w = waits_more supply old start mid (waits_cleared supply old start c) call.outcome.0 in record {
      outcome = (
        takes_line supply old start mid new len (reader_line new) w call.outcome.1 c.waiting (sym c.past ∙ call.outcome.2) take_call.source take_call.taken take_call.past t.0 t.1,
        subst IsUtf8 (sym t.1) t.2,
        t.3 ∙ ap next_row (kept.row ∙ c.row),
      );
      passed = take_call.passed ∙ kept.passed ∙ c.passed;
      counts = take_call.counts ∙ call.step.counts ∙ c.faults supply;
      lazy = λ h. take_call.source ∙ lazy_cleared old start mid c call.lazy h;
      stays_past = λ past. take_call.past ∙ call.step.stays_past (c.past ∙ past);
      limit = take_call.limit ∙ kept.limit ∙ c.limit;
      same_reference = ap supply.reference take_call.source ∙ kept.same_reference ∙ ap supply.reference c.source;
    }

not_taken_outcome : {B T : Type 0} (supply : Supply B) (old start mid new : Reader B) (len : ℕ) (why : Error) → TakeCall {T = T} supply len mid (Err why) new → AwaitCall supply start (Ok (Some len)) mid → Cleared old start
    → LineOutcome supply old (Err why) new
not_taken_outcome supply old start mid new len why take_call call c =
    let t = take_call.outcome in
    let w = waits_more supply old start mid (waits_cleared supply old start c) call.outcome.0 in
    let line = take len (reader_waiting mid) in
    subst (λ (w : Error). LineOutcome supply old (Err w) new) (sym t.0) (
      (line, takes_line supply old start mid new len line w call.outcome.1 c.waiting (sym c.past ∙ call.outcome.2) take_call.source take_call.taken take_call.past t.1 refl, t.2),
      record { row = t.3.row ∙ ap next_row (call.step.kept.row ∙ c.row); line = t.3.line },
    )

-- a line was there, and could not be taken
pub line_not_taken : {B T : Type 0} (supply : Supply B) (old : Reader B) {start mid new : Reader B} (len : ℕ) (why : Error) → TakeCall {T = T} supply len mid (Err why) new → AwaitCall supply start (Ok (Some len)) mid → Cleared old start
    → LineCall supply old (Err why) new
line_not_taken {B} {T} supply old {start} {mid} {new} len why take_call call c =
    let kept = call.step.kept in record {
      outcome = not_taken_outcome supply old start mid new len why take_call call c;
      passed = take_call.passed ∙ kept.passed ∙ c.passed;
      counts = subst (λ (f : IoFault → ℕ). CountsNext {T = Bool} f (Err why) (reader_faults supply new)) (call.step.counts ∙ c.faults supply) (counts_refusal T Bool _ why _ take_call.counts);
      lazy = λ h. take_call.source ∙ lazy_cleared old start mid c call.lazy h;
      stays_past = λ past. take_call.past ∙ call.step.stays_past (c.past ∙ past);
      limit = take_call.limit ∙ kept.limit ∙ c.limit;
      same_reference = ap supply.reference take_call.source ∙ kept.same_reference ∙ ap supply.reference c.source;
    }
