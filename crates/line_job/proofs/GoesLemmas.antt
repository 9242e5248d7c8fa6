-- The clauses of a run: from those of what follows a line to those from that line on, and from those after a batch was written.
use Rattle.std.proofs.Common.{◌≡◌, ◌⊎◌, ◌+◌, ◌-◌, ◌<◌, ◌≤◌, ◌++◌, ℕ, Bool, List, [], ◌∷◌, length, sym, ◌∙◌, ap, subst, refl, inl, inr, ⊎_elim, arith, length-append, append_assoc, append-nil, Option, Result}
use Rattle.std.specs.Io.KnownBytes.{Appends, IsAtEnd}
use Rattle.std.proofs.KnownBytes.{Appends-trans, Consumes-trans}
use Rattle.edge_io.specs.Ends.{Rises}
use Rattle.edge_io.specs.Supply.{Supply}
use Rattle.whiteread.specs.Lines.{lines_of, without_feed, IsFirstLine}
use Rattle.whiteread.specs.LineCall.{TakesLine}
use Rattle.whiteread.specs.ReaderState.{reader_source, reader_limit, reader_taken, reader_waiting, reader_line}
use Rattle.whiteread.specs.declared.reader.Reader.{Reader}
use Rattle.line_job.specs.declared.stop.Stop.{Stop}
use Rattle.line_job.specs.Rules.{Rules, KeepsLine, AreKept, WereKept, AreAllKept, AreRefused}
use Rattle.line_job.specs.Reached.{reaches_end, one_read, ended_lines, reached_lines}
use Rattle.line_job.specs.Inner.NextLine.{IsOpen, Took}
use Rattle.line_job.specs.Inner.Goes.{Ends, View, Place, place_of, view_of, left, GrewAll, Grew, GrewLines, GrewSome, GrewRefused, Goes, LeadsTo}
use Rattle.line_job.proofs.LineLemmas.{lines_first, first_some, le_or_lt, reached_first, reaches_more, ended_first, ended_short, ended_unended, ended_nil, open_if_unended}
use Rattle.line_job.proofs.EndLemmas.{on_ok, if_ok, if_err, moves, maps, front_after, grew_nil, grew_assoc, front_assoc}

-- the counts around a line that was taken
pub record Counts (w0 w1 line given0 given1 room0 room1 : ℕ) : Type 0 where
  pub got : ℕ
  pub cut : w0 + got ≡ line + w1
  pub gave : given1 ≡ given0 + got
  pub room : room0 ≡ got + room1

pub counts : {B : Type 0} (supply : Supply B) (before : ℕ) (old new : Reader B) (line : List ℕ) → Took supply before old new line → reader_taken new ≤ reader_limit new
    → Counts (length (reader_waiting old)) (length (reader_waiting new)) (length line) (supply.given (reader_source old)) (supply.given (reader_source new)) (reader_limit old - reader_taken old) (reader_limit new - reader_taken new)
counts supply before old new line took within = record {
  got = length took.takes.got;
  cut = sym (length-append (reader_waiting old) took.takes.got) ∙ ap length took.takes.cut ∙ length-append line (reader_waiting new);
  gave = took.takes.gave.count;
  room = omega (arith, within, took.limit, took.takes.taken);
}

-- a line in front of lines

one_more : {Stage Why : Type 0} (rules : Rules Stage Why) (before : ℕ) (stage next last : Stage) (line first text : List ℕ) (lines : List (List ℕ))
    → KeepsLine rules stage (before + 1) line first next → AreKept rules (before + 1) next lines text last → AreKept rules before stage (line ∷ lines) (first ++ text) last
one_more rules before stage next last line first text lines keeps here = (first, text, next, keeps, refl, here)

all_more : {Stage Why : Type 0} (rules : Rules Stage Why) (before : ℕ) (stage next : Stage) (line first text : List ℕ) (lines : List (List ℕ))
    → KeepsLine rules stage (before + 1) line first next → AreAllKept rules (before + 1) next lines text → AreAllKept rules before stage (line ∷ lines) (first ++ text)
all_more rules before stage next line first text lines keeps (owed, tail, last, here, ends, e) =
    (first ++ owed, tail, last, one_more rules before stage next last line first owed lines keeps here, ends, ap (λ (t : List ℕ). first ++ t) e ∙ sym (append_assoc first owed tail))

refused_more : {Stage Why : Type 0} (rules : Rules Stage Why) (ended : Bool) (before : ℕ) (stage next : Stage) (line first text : List ℕ) (lines : List (List ℕ)) (stop : Stop Why)
    → KeepsLine rules stage (before + 1) line first next → AreRefused rules ended (before + 1) next lines text stop → AreRefused rules ended before stage (line ∷ lines) (first ++ text) stop
refused_more rules ended before stage next line first text lines stop keeps here = inr (first, text, next, keeps, refl, here)

grew_all : {Stage Why : Type 0} (rules : Rules Stage Why) (before : ℕ) (stage next : Stage) (owed line first : List ℕ) (held held' : Option (List ℕ)) (lines all : List (List ℕ))
    → KeepsLine rules stage (before + 1) line first next → all ≡ line ∷ lines → GrewAll rules (place_of (before + 1) next (owed ++ first)) held held' lines → GrewAll rules (place_of before stage owed) held held' all
grew_all rules before stage next owed line first held held' lines all keeps is (text, here, took) = (
  first ++ text,
  subst (λ (ls : List (List ℕ)). AreAllKept rules before stage ls (first ++ text)) (sym is) (all_more rules before stage next line first text lines keeps here),
  grew_assoc held held' owed first text took,
)

grew : {Stage Why : Type 0} (rules : Rules Stage Why) (before : ℕ) (stage next : Stage) (owed line first : List ℕ) (held held' : Option (List ℕ)) (lines all : List (List ℕ))
    → KeepsLine rules stage (before + 1) line first next → all ≡ line ∷ lines → Grew rules (place_of (before + 1) next (owed ++ first)) held held' lines → Grew rules (place_of before stage owed) held held' all
grew rules before stage next owed line first held held' lines all keeps is (text, last, here, took) = (
  first ++ text,
  last,
  subst (λ (ls : List (List ℕ)). AreKept rules before stage ls (first ++ text) last) (sym is) (one_more rules before stage next last line first text lines keeps here),
  grew_assoc held held' owed first text took,
)

grew_lines : {Stage Why : Type 0} (rules : Rules Stage Why) (before : ℕ) (stage next : Stage) (owed line first : List ℕ) (held held' : Option (List ℕ)) (lines all : List (List ℕ))
    → KeepsLine rules stage (before + 1) line first next → all ≡ line ∷ lines → GrewLines rules (place_of (before + 1) next (owed ++ first)) held held' lines → GrewLines rules (place_of before stage owed) held held' all
grew_lines rules before stage next owed line first held held' lines all keeps is (front, more, cut, here) = (
  line ∷ front,
  more,
  is ∙ ap (λ (ls : List (List ℕ)). line ∷ ls) cut,
  grew rules before stage next owed line first held held' front (line ∷ front) keeps refl here,
)

grew_some : {Stage Why : Type 0} (rules : Rules Stage Why) (before : ℕ) (stage next : Stage) (owed line after text_of first : List ℕ) (held held' : Option (List ℕ)) (left room : ℕ)
    → KeepsLine rules stage (before + 1) text_of first next → lines_of (line ++ after) ≡ text_of ∷ lines_of after → reached_lines left (line ++ after) ≡ text_of ∷ reached_lines room after → left ≡ length line + room
    → GrewSome rules (place_of (before + 1) next (owed ++ first)) held held' room after → GrewSome rules (place_of before stage owed) held held' left (line ++ after)
grew_some rules before stage next owed line after text_of first held held' left room keeps is reached e (text, inl (front, more, last, cut, here), took) = (
  first ++ text,
  inl (text_of ∷ front, more, last, reached ∙ ap (λ (ls : List (List ℕ)). text_of ∷ ls) cut, one_more rules before stage next last text_of first text front keeps here),
  front_assoc held held' owed first text took,
)
grew_some rules before stage next owed line after text_of first held held' left room keeps is reached e (text, inr (le, here), took) = (
  first ++ text,
  inr (
    omega (arith, le, e, length-append line after),
    subst (λ (ls : List (List ℕ)). AreAllKept rules before stage ls (first ++ text)) (sym is) (all_more rules before stage next text_of first text (lines_of after) keeps here),
  ),
  front_assoc held held' owed first text took,
)

no_text : (owed first text : List ℕ) → first ≡ [] → text ≡ [] → (owed ++ first) ++ text ≡ owed
no_text owed first text none nothing = ap (λ (t : List ℕ). (owed ++ t) ++ text) none ∙ ap (λ (t : List ℕ). (owed ++ []) ++ t) nothing ∙ append-nil (owed ++ []) ∙ append-nil owed

-- the lines that ended, where the line that was taken may be the last, which no line feed ends, and then owes nothing
grew_ended : {B Stage Why : Type 0} (rules : Rules Stage Why) (before : ℕ) (stage next : Stage) (owed line after first : List ℕ) (new : Reader B) (held held' : Option (List ℕ)) (n m : ℕ)
    → KeepsLine rules stage (before + 1) (without_feed line) first next → IsFirstLine line after → n ≡ length line + m → (reader_line new ≡ line) ⊎ (first ≡ []) → ¬ IsOpen (reader_line new)
    → Grew rules (place_of (before + 1) next (owed ++ first)) held held' (ended_lines m after) → Grew rules (place_of before stage owed) held held' (ended_lines n (line ++ after))
grew_ended rules before stage next owed line after first new held held' n m keeps (inl whole) e current more here =
    grew rules before stage next owed (without_feed line) first held held' (ended_lines m after) (ended_lines n (line ++ after)) keeps (ended_first line after n m whole e) here
grew_ended rules before stage next owed line after first new held held' n m keeps (inr last) e (inl current) more here =
    absurd (more (subst IsOpen (sym current) (open_if_unended line last.0)))
grew_ended rules before stage next owed line after first new held held' n m keeps (inr last) e (inr none) more (text, stop, here, took) =
    let nothing : AreKept rules (before + 1) next [] text stop = subst (λ (ls : List (List ℕ)). AreKept rules (before + 1) next ls text stop) (ended_nil m after last.1) here in
    let plain : Appends held held' owed = subst (λ (t : List ℕ). Appends held held' t) (no_text owed first text none nothing.0) took in (
      [],
      stage,
      subst (λ (ls : List (List ℕ)). AreKept rules before stage ls [] stage) (sym (ended_unended line after n m last.0 last.1 e)) (refl, refl),
      grew_nil held held' owed plain,
    )

pub none_kept : {Stage Why : Type 0} (rules : Rules Stage Why) (before : ℕ) (stage : Stage) (lines : List (List ℕ)) → lines ≡ [] → WereKept rules before stage lines
none_kept rules before stage lines none = ([], stage, subst (λ (ls : List (List ℕ)). AreKept rules before stage ls [] stage) (sym none) (refl, refl))

kept_first : {Stage Why : Type 0} (rules : Rules Stage Why) (before : ℕ) (stage next : Stage) (line after first : List ℕ) (n m : ℕ)
    → KeepsLine rules stage (before + 1) (without_feed line) first next → IsFirstLine line after → n ≡ length line + m
    → WereKept rules (before + 1) next (ended_lines m after) → WereKept rules before stage (ended_lines n (line ++ after))
kept_first rules before stage next line after first n m keeps (inl whole) e (text, last, here) = (
  first ++ text,
  last,
  subst (λ (ls : List (List ℕ)). AreKept rules before stage ls (first ++ text) last) (sym (ended_first line after n m whole e)) (one_more rules before stage next last (without_feed line) first text (ended_lines m after) keeps here),
)
kept_first rules before stage next line after first n m keeps (inr last) e here = none_kept rules before stage (ended_lines n (line ++ after)) (ended_unended line after n m last.0 last.1 e)

-- the lines that ended before as many bytes as a read gives: the first of them is kept, or is not among them
kept_early : {Stage Why : Type 0} (rules : Rules Stage Why) (before : ℕ) (stage next : Stage) (line after first : List ℕ) (n m : ℕ)
    → KeepsLine rules stage (before + 1) (without_feed line) first next → IsFirstLine line after → n ≡ length line + m
    → WereKept rules (before + 1) next (ended_lines (m - one_read) after) → WereKept rules before stage (ended_lines (n - one_read) (line ++ after))
kept_early rules before stage next line after first n m keeps begun e here =
    let some : 0 < length line = first_some line after begun in
    ⊎_elim
    (λ (le : one_read ≤ m). kept_first rules before stage next line after first (n - one_read) (m - one_read) keeps begun (omega (arith, le, e)) here)
    (λ (lt : m < one_read). none_kept rules before stage (ended_lines (n - one_read) (line ++ after)) (ended_short line after (n - one_read) begun (omega (arith, lt, e, some))))
    (le_or_lt one_read m)

-- the clauses from a line on, of those of what follows it
pub goes_line : {B K Stage Why : Type 0} (ends : Ends B K) (rules : Rules Stage Why) (before : ℕ) (stage next : Stage) (owed first : List ℕ) (old new : Reader B) (source' : B) (output output' : K) (result : Result ℕ (Stop Why)) (line : List ℕ)
    → Took ends.supply before old new line → (reader_line new ≡ line) ⊎ (first ≡ []) → reader_taken new ≤ reader_limit new → KeepsLine rules stage (before + 1) (without_feed line) first next
    → Goes ends rules (place_of (before + 1) next (owed ++ first)) (view_of new) source' output output' result → Goes ends rules (place_of before stage owed) (view_of old) source' output output' result
goes_line {Stage = Stage} ends rules before stage next owed first old new source' output output' result line took current within keeps goes =
    let takes : TakesLine ends.supply old new line = took.takes in
    let n = counts ends.supply before old new line took within in
    let r0 = ends.supply.rest (reader_source old) in
    let r1 = ends.supply.rest (reader_source new) in
    let held = ends.held output in
    let held' = ends.held output' in
    let w0 : List ℕ = reader_waiting old in
    let w1 : List ℕ = reader_waiting new in
    let l0 : ℕ = length w0 + (reader_limit old - reader_taken old) in
    let l1 : ℕ = length w1 + (reader_limit new - reader_taken new) in
    let reach : l0 ≡ length line + l1 = omega (arith, n.cut, n.room) in
    let more : ends.supply.given source' ≡ ends.supply.given (reader_source new) + length goes.gave.0 = goes.gave.2 in
    let seen0 : ℕ = length w0 + (ends.supply.given source' - ends.supply.given (reader_source old)) in
    let seen1 : ℕ = length w1 + (ends.supply.given source' - ends.supply.given (reader_source new)) in
    let see : seen0 ≡ length line + seen1 = omega (arith, n.cut, n.gave, more) in
    let here : Place Stage = place_of before stage owed in
    let there : Place Stage = place_of (before + 1) next (owed ++ first) in
    record {
      kept = on_ok result (moves r0 r1 w0 w1 line takes.got
          (λ bytes. IsAtEnd (ends.supply.rest source') × GrewAll rules there held held' (lines_of bytes))
          (λ bytes. IsAtEnd (ends.supply.rest source') × GrewAll rules here held held' (lines_of bytes))
          takes.gave.bytes takes.cut takes.first takes.unended
          (λ bytes begun h. (h.0, grew_all rules before stage next owed (without_feed line) first held held' (lines_of bytes) (lines_of (line ++ bytes)) keeps (lines_first line bytes begun) h.1))) goes.kept;
      lines = if_ok result _ _ (λ m. moves r0 r1 w0 w1 line takes.got
          (λ bytes. ((before + 1) + length (lines_of bytes) ≡ m) × (length bytes ≤ l1))
          (λ bytes. (before + length (lines_of bytes) ≡ m) × (length bytes ≤ l0))
          takes.gave.bytes takes.cut takes.first takes.unended
          (λ bytes begun h. (omega (arith, h.0, ap length (lines_first line bytes begun)), omega (arith, h.1, reach, length-append line bytes)))) goes.lines;
      refused = if_err result _ _ (λ stop before_ of_lines. moves r0 r1 w0 w1 line takes.got
          (GrewRefused rules there held held' stop l1) (GrewRefused rules here held held' stop l0)
          takes.gave.bytes takes.cut takes.first takes.unended
          (λ bytes begun h. (
            first ++ h.0,
            subst (λ (ls : List (List ℕ)). AreRefused rules (reaches_end l0 (line ++ bytes)) before stage ls (first ++ h.0) stop) (sym (reached_first line bytes l0 l1 begun reach))
                (subst (λ (b : Bool). AreRefused rules b before stage (without_feed line ∷ reached_lines l1 bytes) (first ++ h.0) stop) (sym (reaches_more line bytes l0 l1 reach))
                (refused_more rules (reaches_end l1 bytes) before stage next (without_feed line) first h.0 (reached_lines l1 bytes) stop keeps h.1)),
            grew_assoc held held' owed first h.0 h.2,
          )) (before_ of_lines)) goes.refused;
      read_no_further = if_err result _ _ (λ stop before_ of_lines. moves r0 r1 w0 w1 line takes.got
          (λ bytes. WereKept rules (before + 1) next (ended_lines (seen1 - one_read) bytes))
          (λ bytes. WereKept rules before stage (ended_lines (seen0 - one_read) bytes))
          takes.gave.bytes takes.cut takes.first takes.unended
          (λ bytes begun h. kept_early rules before stage next line bytes first seen0 seen1 keeps begun see h) (before_ of_lines)) goes.read_no_further;
      too_long = λ e. (let h : ends.supply.given source' ≡ ends.supply.given (reader_source new) + (reader_limit new - reader_taken new) + 1 = goes.too_long e in omega (arith, h, n.gave, n.room));
      within = elim goes.within [
        | inl e ↦ inl e
        | inr h ↦ inr (omega (arith, h, n.gave, n.room))
      ];
      gave = (
        takes.got ++ goes.gave.0,
        Consumes-trans r0 r1 (ends.supply.rest source') takes.got goes.gave.0 takes.gave.bytes goes.gave.1,
        omega (arith, more, takes.gave.count, length-append takes.got goes.gave.0),
      );
      past_limit = λ e. moves r0 r1 w0 w1 line takes.got
          (λ bytes. (l1 < length bytes) × Grew rules there held held' (ended_lines l1 bytes))
          (λ bytes. (l0 < length bytes) × Grew rules here held held' (ended_lines l0 bytes))
          takes.gave.bytes takes.cut takes.first takes.unended
          (λ bytes begun h. (
            omega (arith, h.0, reach, length-append line bytes),
            grew_ended rules before stage next owed line bytes first new held held' l0 l1 keeps begun reach current (goes.more (inr e)) h.1,
          )) (goes.past_limit e);
      read_fault = λ e. (let h : Rises (ends.supply.faults (reader_source new)) (ends.supply.faults source') = goes.read_fault e in subst (λ (f : ℕ). Rises f (ends.supply.faults source')) took.still h);
      before_a_read = λ e. moves r0 r1 w0 w1 line takes.got
          (λ bytes. Grew rules there held held' (ended_lines seen1 bytes))
          (λ bytes. Grew rules here held held' (ended_lines seen0 bytes))
          takes.gave.bytes takes.cut takes.first takes.unended
          (λ bytes begun h. grew_ended rules before stage next owed line bytes first new held held' seen0 seen1 keeps begun see current (goes.more (inl e)) h) (goes.before_a_read e);
      reads = elim goes.reads [
        | inl e ↦ inl e
        | inr h ↦ inr (h ∙ took.still)
      ];
      write_fault = goes.write_fault;
      writes = goes.writes;
      after_write_fault = λ e. moves r0 r1 w0 w1 line takes.got
          (GrewSome rules there held held' l1) (GrewSome rules here held held' l0)
          takes.gave.bytes takes.cut takes.first takes.unended
          (λ bytes begun h. grew_some rules before stage next owed line bytes (without_feed line) first held held' l0 l1 keeps (lines_first line bytes begun) (reached_first line bytes l0 l1 begun reach) reach h) (goes.after_write_fault e);
      after_no_memory = λ e. moves r0 r1 w0 w1 line takes.got
          (λ bytes. GrewLines rules there held held' (reached_lines l1 bytes))
          (λ bytes. GrewLines rules here held held' (reached_lines l0 bytes))
          takes.gave.bytes takes.cut takes.first takes.unended
          (λ bytes begun h. grew_lines rules before stage next owed (without_feed line) first held held' (reached_lines l1 bytes) (reached_lines l0 (line ++ bytes)) keeps (reached_first line bytes l0 l1 begun reach) h) (goes.after_no_memory e);
      more = λ e. took.more;
    }

-- the lines from one on lead where those after it lead
pub leads_line : {B K Stage Why : Type 0} (ends : Ends B K) (rules : Rules Stage Why) (before : ℕ) (stage next last : Stage) (first : List ℕ) (old new : Reader B) (line : List ℕ)
    → Took ends.supply before old new line → KeepsLine rules stage (before + 1) (without_feed line) first next → LeadsTo ends rules (before + 1) next (view_of new) last → LeadsTo ends rules before stage (view_of old) last
leads_line ends rules before stage next last first old new line took keeps leads =
    let takes : TakesLine ends.supply old new line = took.takes in
    moves (ends.supply.rest (reader_source old)) (ends.supply.rest (reader_source new)) (reader_waiting old) (reader_waiting new) line takes.got
    (λ bytes. (text : List ℕ) × AreKept rules (before + 1) next (lines_of bytes) text last)
    (λ bytes. (text : List ℕ) × AreKept rules before stage (lines_of bytes) text last)
    takes.gave.bytes takes.cut takes.first takes.unended
    (λ bytes begun h. (
      first ++ h.0,
      subst (λ (ls : List (List ℕ)). AreKept rules before stage ls (first ++ h.0) last) (sym (lines_first line bytes begun))
          (one_more rules before stage next last (without_feed line) first h.0 (lines_of bytes) keeps h.1),
    ))
    leads

-- what was owed was written
pub goes_sent : {B K Stage Why : Type 0} (ends : Ends B K) (rules : Rules Stage Why) (before : ℕ) (stage : Stage) (owed : List ℕ) (old : View B) (source' : B) (output mid output' : K) (result : Result ℕ (Stop Why))
    → Appends (ends.held output) (ends.held mid) owed → ends.sink_faults mid ≡ ends.sink_faults output
    → Goes ends rules (place_of before stage []) old source' mid output' result → Goes ends rules (place_of before stage owed) old source' output output' result
goes_sent ends rules before stage owed old source' output mid output' result sent still goes =
    let r0 = ends.supply.rest old.source in
    let held = ends.held output in
    let held' = ends.held output' in
    let on : (text : List ℕ) → Appends (ends.held mid) held' text → Appends held held' (owed ++ text) =
    λ text took. Appends-trans held (ends.held mid) held' owed text sent took in
    let grew_on : (lines : List (List ℕ)) → Grew rules (place_of before stage []) (ends.held mid) held' lines → Grew rules (place_of before stage owed) held held' lines =
    λ lines h. (h.0, h.1, h.2, on h.0 h.3) in
    record {
      kept = on_ok result (maps r0 _ _ (λ bytes h. (h.0, (h.1.0, h.1.1, on h.1.0 h.1.2)))) goes.kept;
      lines = goes.lines;
      refused = if_err result _ _ (λ stop before_ of_lines. maps r0 _ _ (λ bytes h. (h.0, h.1, on h.0 h.2)) (before_ of_lines)) goes.refused;
      read_no_further = goes.read_no_further;
      too_long = goes.too_long;
      within = goes.within;
      gave = goes.gave;
      past_limit = λ e. maps r0 _ _ (λ bytes h. (h.0, grew_on (ended_lines (left old) (old.waiting ++ bytes)) h.1)) (goes.past_limit e);
      read_fault = goes.read_fault;
      before_a_read = λ e. maps r0 _ _ (λ bytes h. grew_on (ended_lines (length old.waiting + (ends.supply.given source' - ends.supply.given old.source)) (old.waiting ++ bytes)) h) (goes.before_a_read e);
      reads = goes.reads;
      write_fault = λ e. subst (λ (f : ℕ). Rises f (ends.sink_faults output')) still (goes.write_fault e);
      writes = elim goes.writes [
        | inl e ↦ inl e
        | inr h ↦ inr (h ∙ still)
      ];
      after_write_fault = λ e. maps r0 _ _ (λ bytes h. (h.0, h.1, front_after held (ends.held mid) held' owed h.0 sent h.2)) (goes.after_write_fault e);
      after_no_memory = λ e. maps r0 _ _ (λ bytes h. (h.0, h.1, h.2, grew_on h.0 h.3)) (goes.after_no_memory e);
      more = goes.more;
    }
