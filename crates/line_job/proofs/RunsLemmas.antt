-- The clauses of a run, from those from its first line on.
use Rattle.std.proofs.Common.{◌≡◌, ◌⊎◌, ◌+◌, ◌-◌, ◌<◌, ◌≤◌, ℕ, true, List, [], sym, ◌∙◌, ap, subst, refl, inl, inr, length, arith, zero-add, Option, Result, Ok, Err, IfSome, IsErrOf}
use Rattle.std.proofs.lemmas.Bool.{false≢true}
use Rattle.edge_io.specs.Supply.{Supply}
use Rattle.whiteread.specs.Lines.{lines_of}
use Rattle.line_job.specs.declared.stop.Stop.{Stop}
use Rattle.line_job.specs.declared.stop.Stop.TheVariants.{Line, NotUtf8, TooLong, ReadFault, WriteFault, NoMemory}
use Rattle.line_job.specs.Stop.{IsOfLines, StopsEarly}
use Rattle.line_job.specs.Ends.{source_seen, sink_seen, Took}
use Rattle.line_job.specs.Rules.{Rules, AreKept, WereKept, AreRefused}
use Rattle.line_job.specs.Laws.{AreClear}
use Rattle.line_job.specs.Reached.{reaches_end, one_read, ended_lines, reached_lines}
use Rattle.line_job.specs.Runs.{Runs, IsKept, IsRefused, Wrote}
use Rattle.line_job.specs.Inner.Goes.{ends_of, View, first_place, GrewLines, GrewSome, Goes}
use Rattle.line_job.proofs.LineLemmas.{reached_all, reached_ended, reaches_not}
use Rattle.line_job.proofs.EndLemmas.{refusal, maps, any_is, both}
use Rattle.line_job.proofs.OneAnswer.{kept_apart, refused_one}

-- the view of a reader that has taken nothing
abbrev pub first_view : {B : Type 0} → B → ℕ → View B
first_view input limit = record { source = input; waiting = []; room = limit; line = [] }

stops_read : {Why : Type 0} → StopsEarly {Why = Why} (Err ReadFault)
stops_read = inl refl

stops_write : {Why : Type 0} → StopsEarly {Why = Why} (Err WriteFault)
stops_write = inr (inl refl)

stops_memory : {Why : Type 0} → StopsEarly {Why = Why} (Err NoMemory)
stops_memory = inr (inr refl)

-- what a refusal can be
Sort : {Why : Type 0} → Stop Why → Type 0
Sort stop = IsOfLines stop ⊎ ((stop ≡ TooLong) ⊎ ((stop ≡ ReadFault) ⊎ ((stop ≡ WriteFault) ⊎ (stop ≡ NoMemory))))

sort_of : {Why : Type 0} (stop : Stop Why) → Sort stop
unfolding Sort
sort_of (Line why) = inl tt
sort_of (NotUtf8 line) = inl tt
sort_of TooLong = inr (inl refl)
sort_of ReadFault = inr (inr (inl refl))
sort_of WriteFault = inr (inr (inr (inl refl)))
sort_of NoMemory = inr (inr (inr (inr refl)))

ends_not : (limit : ℕ) (bytes : List ℕ) → limit < length bytes → reaches_end limit bytes ≡ true → ⊥
ends_not limit bytes past end = false≢true (sym (reaches_not limit bytes past) ∙ end)

-- input that is kept is not refused
never_both : {Stage Why : Type 0} (rules : Rules Stage Why) (clear : AreClear rules) (start : Stage) (limit : ℕ) (bytes a b : List ℕ) (stop : Stop Why)
    → IsKept rules start bytes a → length bytes ≤ limit → IsRefused rules start limit bytes b stop → ⊥
never_both rules clear start limit bytes a b stop h le bad =
    kept_apart rules clear (reaches_end limit bytes) 0 start h.2 (lines_of bytes) h.0 b stop h.3 (λ w. (h.1, h.4))
    (subst (λ (ls : List (List ℕ)). AreRefused rules (reaches_end limit bytes) 0 start ls b stop) (reached_all limit bytes le) bad)

pub ok_is : {S K Stage Why : Type 0} (rules : Rules Stage Why) (clear : AreClear rules) (start : Stage) (supply : Supply S) (held : K → Option (List ℕ)) (sink_faults : K → ℕ) (input input' : S) (output output' : K) (limit n : ℕ)
    → Goes (ends_of supply held sink_faults) rules (first_place start) (first_view input limit) input' output output' (Ok n)
    → Runs rules start limit (source_seen supply input input') (sink_seen held sink_faults output output') (Ok n)
ok_is rules clear start supply held sink_faults input input' output output' limit n goes =
    let within : supply.given input' ≤ supply.given input + limit = elim goes.within [ inl e ↦ absurd (cc) | inr h ↦ h ] in
    record {
      kept = goes.kept;
      lines = maps (supply.rest input) _ _ (λ bytes count. omega (arith, count.0)) goes.lines;
      within = within;
      refused = tt;
      read_no_further = tt;
      refuses = both (supply.rest input) _ _ _ (λ bytes here count text stop bad. absurd (never_both rules clear start limit bytes here.1.0 text stop here.1.1 (omega (arith, count.1)) bad)) goes.kept goes.lines;
      too_long = ((λ e. absurd (cc)), (λ lt. absurd (omega (arith, within, lt))));
      taken = omega (arith, within);
      gave = goes.gave;
      past_limit = λ e. absurd (cc);
      read_fault = λ e. absurd (cc);
      before_a_read = λ e. absurd (cc);
      reads = goes.reads;
      write_fault = λ e. absurd (cc);
      writes = goes.writes;
      after_write_fault = λ e. absurd (cc);
      after_no_memory = λ e. absurd (cc);
      complete = any_is (supply.rest input) _ (λ bytes text kept le a b. inl refl);
    }

pub err_is : {S K Stage Why : Type 0} (rules : Rules Stage Why) (clear : AreClear rules) (start : Stage) (supply : Supply S) (held : K → Option (List ℕ)) (sink_faults : K → ℕ) (input input' : S) (output output' : K) (limit : ℕ) (stop : Stop Why)
    → Goes (ends_of supply held sink_faults) rules (first_place start) (first_view input limit) input' output output' (Err stop)
    → Runs rules start limit (source_seen supply input input') (sink_seen held sink_faults output output') (Err stop)
unfolding Sort
err_is {S = S} {K = K} {Stage = Stage} {Why = Why} rules clear start supply held sink_faults input input' output output' limit stop goes =
    let same : 0 + limit ≡ limit = zero-add limit in
    let seen : 0 + (supply.given input' - supply.given input) ≡ supply.given input' - supply.given input = zero-add (supply.given input' - supply.given input) in
    let took : List ℕ → Type 0 = Took (sink_seen held sink_faults output output') in
    let refused : IsOfLines stop → IfSome (supply.rest input) (λ bytes. (text : List ℕ) × IsRefused rules start limit bytes text stop × took text) =
    λ of_lines. maps (supply.rest input) _ _ (λ bytes here. (here.0, subst (λ (l : ℕ). IsRefused rules start l bytes here.0 stop) same here.1, here.2)) (goes.refused of_lines) in
    let past : IsErrOf (refusal stop) TooLong → IfSome (supply.rest input) (λ bytes. (limit < length bytes) × Wrote rules start (sink_seen held sink_faults output output') (ended_lines limit bytes)) =
    λ e. maps (supply.rest input) _ _ (λ bytes here. (omega (arith, here.0), (here.1.0, here.1.1, subst (λ (l : ℕ). AreKept rules 0 start (ended_lines l bytes) here.1.0 here.1.1) same here.1.2, here.1.3))) (goes.past_limit e) in
    record {
      kept = tt;
      lines = tt;
      within = tt;
      refused = refused;
      read_no_further = λ of_lines. maps (supply.rest input) _ _ (λ bytes here. subst (λ (n : ℕ). WereKept rules 0 start (ended_lines (n - one_read) bytes)) seen here) (goes.read_no_further of_lines);
      refuses = elim (sort_of stop) [
        | inl of_lines ↦ maps (supply.rest input) _ _ (λ bytes here text other bad. inl (ap refusal (refused_one rules clear (reaches_end limit bytes) 0 start (reached_lines limit bytes) here.0 text stop other here.1 bad).1)) (refused of_lines)
        | inr (inl is) ↦ maps (supply.rest input) _ _ (λ bytes here text other bad. absurd (kept_apart rules clear (reaches_end limit bytes) 0 start here.1.1 (ended_lines limit bytes) here.1.0 text other here.1.2 (λ end. absurd (ends_not limit bytes here.0 end))
            (subst (λ (ls : List (List ℕ)). AreRefused rules (reaches_end limit bytes) 0 start ls text other) (reached_ended limit bytes here.0) bad))) (past (ap refusal is))
        | inr (inr (inl is)) ↦ any_is (supply.rest input) _ (λ bytes text other bad. inr (subst (λ (w : Stop Why). StopsEarly (Err w)) (sym is) stops_read))
        | inr (inr (inr (inl is))) ↦ any_is (supply.rest input) _ (λ bytes text other bad. inr (subst (λ (w : Stop Why). StopsEarly (Err w)) (sym is) stops_write))
        | inr (inr (inr (inr is))) ↦ any_is (supply.rest input) _ (λ bytes text other bad. inr (subst (λ (w : Stop Why). StopsEarly (Err w)) (sym is) stops_memory))
      ];
      too_long = ((λ e. (let h : supply.given input' ≡ supply.given input + limit + 1 = goes.too_long e in omega (arith, h))), (λ lt. elim goes.within [ inl e ↦ e | inr h ↦ absurd (omega (arith, h, lt)) ]));
      taken = elim goes.within [ inl e ↦ (let h : supply.given input' ≡ supply.given input + limit + 1 = goes.too_long e in omega (arith, h)) | inr h ↦ omega (arith, h) ];
      gave = goes.gave;
      past_limit = past;
      read_fault = goes.read_fault;
      before_a_read = λ e. maps (supply.rest input) _ _ (λ bytes here. (here.0, here.1, subst (λ (l : ℕ). AreKept rules 0 start (ended_lines l bytes) here.0 here.1) seen here.2, here.3)) (goes.before_a_read e);
      reads = goes.reads;
      write_fault = goes.write_fault;
      writes = goes.writes;
      after_write_fault = λ e. maps (supply.rest input) _ _ (λ bytes here. subst (λ (l : ℕ). GrewSome rules (first_place start) (held output) (held output') l bytes) same here) (goes.after_write_fault e);
      after_no_memory = λ e. maps (supply.rest input) _ _ (λ bytes here. subst (λ (l : ℕ). GrewLines rules (first_place start) (held output) (held output') (reached_lines l bytes)) same here) (goes.after_no_memory e);
      complete = elim (sort_of stop) [
        | inl of_lines ↦ maps (supply.rest input) _ _ (λ bytes here text kept le a b. absurd (never_both rules clear start limit bytes text here.0 stop kept le here.1)) (refused of_lines)
        | inr (inl is) ↦ maps (supply.rest input) _ _ (λ bytes here text kept le a b. absurd (omega (arith, here.0, le))) (past (ap refusal is))
        | inr (inr (inl is)) ↦ any_is (supply.rest input) _ (λ bytes text kept le a b. absurd (a (goes.read_fault (ap refusal is))))
        | inr (inr (inr (inl is))) ↦ any_is (supply.rest input) _ (λ bytes text kept le a b. absurd (b (goes.write_fault (ap refusal is))))
        | inr (inr (inr (inr is))) ↦ any_is (supply.rest input) _ (λ bytes text kept le a b. inr (ap refusal is))
      ];
    }

pub result_is : {S K Stage Why : Type 0} (rules : Rules Stage Why) (clear : AreClear rules) (start : Stage) (supply : Supply S) (held : K → Option (List ℕ)) (sink_faults : K → ℕ) (input input' : S) (output output' : K) (limit : ℕ) (result : Result ℕ (Stop Why))
    → Goes (ends_of supply held sink_faults) rules (first_place start) (first_view input limit) input' output output' result
    → Runs rules start limit (source_seen supply input input') (sink_seen held sink_faults output output') result
result_is rules clear start supply held sink_faults input input' output output' limit (Ok n) goes = ok_is rules clear start supply held sink_faults input input' output output' limit n goes
result_is rules clear start supply held sink_faults input input' output output' limit (Err stop) goes = err_is rules clear start supply held sink_faults input input' output output' limit stop goes
