-- Rows are independent.
use Rattle.std.proofs.Common.{◌≡◌, ◌+◌, ◌++◌, ℕ, List, [], ◌∷◌, length, sym, ap, ◌∙◌, subst, refl, inl, inr, append_assoc, append-nil, arith}
use Rattle.std.proofs.lemmas.Bool.{false≢true}
use Rattle.line_job.specs.Rules.{Rules, KeepsLine, AreKept, AreAllKept}
use Rattle.line_job.specs.Laws.{AreClear, IsOfRows, Splits}
use Rattle.line_job.proofs.OneAnswer.{kept_one}

none_before : (before : ℕ) → 0 + before ≡ before
none_before before = omega arith

one_before : (before : ℕ) (line : List ℕ) (lines : List (List ℕ)) → length (line ∷ lines) + before ≡ length lines + (before + 1)
one_before before line lines = omega arith

at_rows : {Stage Why : Type 0} (rules : Rules Stage Why) (mid stage : Stage) (before : ℕ) (rows : List (List ℕ)) (text : List ℕ) → mid ≡ stage → AreKept rules before mid rows text stage → AreKept rules before stage rows text stage
at_rows {Stage = Stage} rules mid stage before rows text same h = subst (λ (s : Stage). AreKept rules before s rows text stage) same h

-- lines one after the other
joined : {Stage Why : Type 0} (rules : Rules Stage Why) (before : ℕ) (stage mid last : Stage) (lines more : List (List ℕ)) (a b : List ℕ)
    → AreKept rules before stage lines a mid → AreKept rules (length lines + before) mid more b last → AreKept rules before stage (lines ++ more) (a ++ b) last
joined {Stage = Stage} rules before stage mid last [] more a b h k =
    subst (λ (t : List ℕ). AreKept rules before stage more t last) (ap (λ (t : List ℕ). t ++ b) (sym h.0))
    (subst (λ (s : Stage). AreKept rules before s more b last) h.1 (subst (λ (n : ℕ). AreKept rules n mid more b last) (none_before before) k))
joined rules before stage mid last (line ∷ lines) more a b (first, rest, next, keeps, e, here) k = (
  first,
  rest ++ b,
  next,
  keeps,
  ap (λ (t : List ℕ). t ++ b) e ∙ append_assoc first rest b,
  joined rules (before + 1) next mid last lines more rest b here (subst (λ (n : ℕ). AreKept rules n mid more b last) (one_before before line lines) k),
)

parted : {Stage Why : Type 0} (rules : Rules Stage Why) (before : ℕ) (stage last : Stage) (lines more : List (List ℕ)) (text : List ℕ) → AreKept rules before stage (lines ++ more) text last
    → (mid : Stage) × (a : List ℕ) × (b : List ℕ) × AreKept rules before stage lines a mid × AreKept rules (length lines + before) mid more b last × (text ≡ a ++ b)
parted rules before stage last [] more text h = (stage, [], text, (refl, refl), subst (λ (n : ℕ). AreKept rules n stage more text last) (sym (none_before before)) h, refl)
parted rules before stage last (line ∷ lines) more text (first, rest, next, keeps, e, here) =
    let h = parted rules (before + 1) next last lines more rest here in (
      h.0,
      first ++ h.1,
      h.2,
      (first, h.1, next, keeps, refl, h.3),
      subst (λ (n : ℕ). AreKept rules n h.0 more h.2 last) (sym (one_before before line lines)) h.4,
      e ∙ ap (λ (t : List ℕ). first ++ t) h.5 ∙ sym (append_assoc first h.1 h.2),
    )

-- rows wherever they stand
row_alike : {Stage Why : Type 0} (rules : Rules Stage Why) (stage next : Stage) (of_rows : IsOfRows rules stage) (number other : ℕ) (row text : List ℕ) → KeepsLine rules stage number row text next → KeepsLine rules stage other row text stage × (next ≡ stage)
row_alike {Stage = Stage} rules stage next of_rows number other row text (inl h) =
    let same : next ≡ stage = of_rows.stays number row text next h.2 in
    (inl (h.0, h.1, subst (λ (s : Stage). rules.keeps stage other row text s) same (of_rows.alike number other row text next h.2)), same)
row_alike rules stage next of_rows number other row text (inr h) = absurd (false≢true (sym h.0 ∙ of_rows.judged))

rows_alike : {Stage Why : Type 0} (rules : Rules Stage Why) (stage last : Stage) (of_rows : IsOfRows rules stage) (before other : ℕ) (rows : List (List ℕ)) (text : List ℕ)
    → AreKept rules before stage rows text last → AreKept rules other stage rows text stage × (last ≡ stage)
rows_alike rules stage last of_rows before other [] text h = ((h.0, refl), h.1)
rows_alike {Stage = Stage} rules stage last of_rows before other (row ∷ rows) text (first, rest, next, keeps, e, here) =
    let one = row_alike rules stage next of_rows (before + 1) (other + 1) row first keeps in
    let more = rows_alike rules stage last of_rows (before + 1) (other + 1) rows rest (subst (λ (s : Stage). AreKept rules (before + 1) s rows rest last) one.1 here) in
    ((first, rest, stage, one.0, e, more.0), more.1)

-- all of the input is headers and rows
whole : {Stage Why : Type 0} (rules : Rules Stage Why) (start stage : Stage) (headers rows : List (List ℕ)) (text : List ℕ) (of_rows : IsOfRows rules stage)
    → AreKept rules 0 start headers [] stage → AreKept rules (length headers + 0) stage rows text stage → AreAllKept rules 0 start (headers ++ rows) text
whole rules start stage headers rows text of_rows led kept = (text, [], stage, joined rules 0 start stage stage headers rows [] text led kept, of_rows.may_end, sym (append-nil text))

cut : {Stage Why : Type 0} (rules : Rules Stage Why) (clear : AreClear rules) (start stage : Stage) (headers rows : List (List ℕ)) (text : List ℕ) (of_rows : IsOfRows rules stage)
    → AreKept rules 0 start headers [] stage → AreAllKept rules 0 start (headers ++ rows) text → AreKept rules (length headers + 0) stage rows text stage
cut {Stage = Stage} rules clear start stage headers rows text of_rows led (owed, tail, last, here, ends, e) =
    let h = parted rules 0 start last headers rows owed here in
    let same = kept_one rules clear 0 start headers h.1 [] h.0 stage h.3 led in
    let moved = subst (λ (s : Stage). AreKept rules (length headers + 0) s rows h.2 last) same.1 h.4 in
    let rest = rows_alike rules stage last of_rows (length headers + 0) (length headers + 0) rows h.2 moved in
    let none : tail ≡ [] = of_rows.owes_no_more tail (subst (λ (s : Stage). rules.ends s tail) rest.1 ends) in
    let is : text ≡ h.2 = e ∙ ap (λ (t : List ℕ). owed ++ t) none ∙ append-nil owed ∙ h.5 ∙ ap (λ (t : List ℕ). t ++ h.2) same.0 in
    subst (λ (t : List ℕ). AreKept rules (length headers + 0) stage rows t stage) (sym is) rest.0

pub rules_split : {Stage Why : Type 0} (rules : Rules Stage Why) → AreClear rules → Splits rules
rules_split rules clear start rows_next headers rows others led of_rows = record {
  joined = λ a b h k. (let first = cut rules clear start rows_next headers rows a of_rows led h in let second = cut rules clear start rows_next headers others b of_rows led k in
      whole rules start rows_next headers (rows ++ others) (a ++ b) of_rows led
      (joined rules (length headers + 0) rows_next rows_next rows_next rows others a b first (rows_alike rules rows_next rows_next of_rows (length headers + 0) (length rows + (length headers + 0)) others b second).0));
  parted = λ text h. (let all = cut rules clear start rows_next headers (rows ++ others) text of_rows led h in
      let two = parted rules (length headers + 0) rows_next rows_next rows others text all in
      let first = rows_alike rules rows_next two.0 of_rows (length headers + 0) (length headers + 0) rows two.1 two.3 in
      let second = rows_alike rules rows_next rows_next of_rows (length rows + (length headers + 0)) (length headers + 0) others two.2
      (at_rows rules two.0 rows_next (length rows + (length headers + 0)) others two.2 first.1 two.4) in
      (two.1, two.2, whole rules start rows_next headers rows two.1 of_rows led first.0, whole rules start rows_next headers others two.2 of_rows led second.0, two.5));
}
