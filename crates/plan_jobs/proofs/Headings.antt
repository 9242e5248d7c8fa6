-- What the lines in front of the format say, in each job that reads them.
use Rattle.std.proofs.Common.{◌≡◌, ◌+◌, ◌++◌, ℕ, List, [], ◌∷◌, true, refl, sym, ap, ◌∙◌, subst, inl, inr}
use Rattle.std.specs.Str.{IsUtf8}
use Rattle.std.specs.List.{AllByRecursion}
use Rattle.whiteread.specs.Words.{words}
use Rattle.values.specs.declared.kind.Kind.{Kind}
use Rattle.line_job.specs.Rules.{Rules, AreKept}
use Rattle.header_lines.specs.declared.heading.Version.TheVariants.{First, Second}
use Rattle.header_lines.specs.Headers.{IsKindsLine}
use Rattle.header_lines.specs.Heading.{IsSecondVersion, Fields, AreHeading, Heading, first_next, kinds_next, names_next, Headed, more, format_next, KeepsHeading}
use Rattle.plan_jobs.proofs.KeptLines.{judged}

-- the rules of a job keep the lines in front of the format as they are read, and owe nothing for them
pub record ReadsHeading {Stage Why : Type 0} (rules : Rules Stage Why) (after : Headed → Stage) : Type 0 where
  pub judges : (heading : Heading) → rules.judges (after (more heading)) ≡ true
  pub goes_on : (heading : Heading) (tail : List ℕ) → ¬ rules.ends (after (more heading)) tail
  pub keeps : (heading : Heading) (number : ℕ) (line text : List ℕ) (next : Stage) → rules.keeps (after (more heading)) number line text next
      → (text ≡ []) × ((headed : Headed) × KeepsHeading heading line headed × (next ≡ after headed))

-- the stage where lines are kept, by what it is
moved : {Stage Why : Type 0} (rules : Rules Stage Why) (before : ℕ) (stage next : Stage) (lines : List (List ℕ)) (text : List ℕ) (last : Stage) → stage ≡ next → AreKept rules before stage lines text last → AreKept rules before next lines text last
moved {Stage = Stage} rules before stage next lines text last same kept = subst (λ (s : Stage). AreKept rules before s lines text last) same kept

-- a line in front of the format is kept, and then the others are
record IsLed {Stage Why : Type 0} (rules : Rules Stage Why) (after : Headed → Stage) (before : ℕ) (heading : Heading) (lines : List (List ℕ)) (text : List ℕ) (last : Stage) : Type 0 where
  line : List ℕ
  others : List (List ℕ)
  headed : Headed
  lines_are : lines ≡ line ∷ others
  utf8 : IsUtf8 line
  keeps : KeepsHeading heading line headed
  kept : AreKept rules (before + 1) (after headed) others text last

led : {Stage Why : Type 0} (rules : Rules Stage Why) (after : Headed → Stage) (reads : ReadsHeading rules after) (before : ℕ) (heading : Heading) (lines : List (List ℕ)) (text tail : List ℕ) (last : Stage)
    → AreKept rules before (after (more heading)) lines text last → rules.ends last tail → IsLed rules after before heading lines text last
led rules after reads before heading lines text tail last kept ends =
    let one = judged rules before (after (more heading)) lines text tail last (reads.judges heading) (reads.goes_on heading tail) kept ends in
    let keeps = reads.keeps heading (before + 1) one.line one.first one.next one.keeps in
    let all : text ≡ one.rest = one.text_is ∙ ap (λ (t : List ℕ). t ++ one.rest) keeps.0 in
    let more_kept = moved rules (before + 1) one.next (after keeps.1.0) one.others one.rest last keeps.1.2 one.more in
    record {
      line = one.line;
      others = one.others;
      headed = keeps.1.0;
      lines_are = one.lines_are;
      utf8 = one.utf8;
      keeps = keeps.1.1;
      kept = subst (λ (t : List ℕ). AreKept rules (before + 1) (after keeps.1.0) one.others t last) (sym all) more_kept;
    }

-- the lines at the front say these fields, and the others are kept from the format line on
pub record IsHeaded {Stage Why : Type 0} (rules : Rules Stage Why) (after : Headed → Stage) (lines : List (List ℕ)) (text : List ℕ) (last : Stage) : Type 0 where
  pub heading : List (List ℕ)
  pub others : List (List ℕ)
  pub fields : Fields
  pub before : ℕ
  pub lines_are : lines ≡ heading ++ others
  pub utf8 : AllByRecursion IsUtf8 heading
  pub says : AreHeading heading fields
  pub kept : AreKept rules before (after (format_next fields)) others text last

-- the names behind the kinds of the second version
names_led : {Stage Why : Type 0} (rules : Rules Stage Why) (after : Headed → Stage) (line kinds_line : List ℕ) (lines others : List (List ℕ)) (text : List ℕ) (last : Stage) (kinds : List Kind) → lines ≡ kinds_line ∷ others
    → IsUtf8 line → IsUtf8 kinds_line → IsSecondVersion line → IsKindsLine kinds_line kinds → IsLed rules after 2 (names_next kinds) others text last → IsHeaded rules after (line ∷ lines) text last
names_led rules after line kinds_line lines others text last kinds lines_are utf8 also second of_kinds n =
    let fields : Fields = record { version = Second; kinds = kinds; names = words n.line } in
    record {
      heading = line ∷ kinds_line ∷ n.line ∷ [];
      others = n.others;
      fields = fields;
      before = 3;
      lines_are = ap (λ (ls : List (List ℕ)). line ∷ ls) (lines_are ∙ ap (λ (ls : List (List ℕ)). kinds_line ∷ ls) n.lines_are);
      utf8 = (utf8, (also, (n.utf8, tt)));
      says = inr (line, kinds_line, n.line, refl, second, of_kinds, n.keeps.0, refl, refl);
      kept = moved rules 3 (after n.headed) (after (format_next fields)) n.others text last (ap after n.keeps.1) n.kept;
    }

-- the kinds of the second version
kinds_led : {Stage Why : Type 0} (rules : Rules Stage Why) (after : Headed → Stage) (reads : ReadsHeading rules after) (line : List ℕ) (lines : List (List ℕ)) (text tail : List ℕ) (last : Stage) → IsUtf8 line → IsSecondVersion line
    → IsLed rules after 1 kinds_next lines text last → rules.ends last tail → IsHeaded rules after (line ∷ lines) text last
kinds_led rules after reads line lines text tail last utf8 second k ends =
    let kinds : List Kind = k.keeps.0 in
    names_led rules after line k.line lines k.others text last kinds k.lines_are utf8 k.utf8 second k.keeps.1
    (led rules after reads 2 (names_next kinds) k.others text tail last (moved rules 2 (after k.headed) (after (more (names_next kinds))) k.others text last (ap after k.keeps.2) k.kept) ends)

by_version : {Stage Why : Type 0} (rules : Rules Stage Why) (after : Headed → Stage) (reads : ReadsHeading rules after) (line : List ℕ) (lines : List (List ℕ)) (text tail : List ℕ) (last : Stage) (headed : Headed) → IsUtf8 line
    → KeepsHeading first_next line headed → AreKept rules 1 (after headed) lines text last → rules.ends last tail → IsHeaded rules after (line ∷ lines) text last
by_version rules after reads line lines text tail last headed utf8 (inl (second, is)) kept ends =
    kinds_led rules after reads line lines text tail last utf8 second (led rules after reads 1 kinds_next lines text tail last (moved rules 1 (after headed) (after (more kinds_next)) lines text last (ap after is) kept) ends) ends
by_version rules after reads line lines text tail last headed utf8 (inr (kinds, of_kinds, is)) kept ends =
    let fields : Fields = record { version = First; kinds = kinds; names = [] } in
    record {
      heading = line ∷ [];
      others = lines;
      fields = fields;
      before = 1;
      lines_are = refl;
      utf8 = (utf8, tt);
      says = inl (line, refl, of_kinds, refl, refl);
      kept = moved rules 1 (after headed) (after (format_next fields)) lines text last (ap after is) kept;
    }

first_led : {Stage Why : Type 0} (rules : Rules Stage Why) (after : Headed → Stage) (reads : ReadsHeading rules after) (lines : List (List ℕ)) (text tail : List ℕ) (last : Stage) → IsLed rules after 0 first_next lines text last
    → rules.ends last tail → IsHeaded rules after lines text last
first_led rules after reads lines text tail last f ends =
    subst (λ (ls : List (List ℕ)). IsHeaded rules after ls text last) (sym f.lines_are) (by_version rules after reads f.line f.others text tail last f.headed f.utf8 f.keeps f.kept ends)

-- lines that are kept from the first of all say fields, and then comes the format
pub headed_lines : {Stage Why : Type 0} (rules : Rules Stage Why) (after : Headed → Stage) (reads : ReadsHeading rules after) (lines : List (List ℕ)) (text tail : List ℕ) (last : Stage)
    → AreKept rules 0 (after (more first_next)) lines text last → rules.ends last tail → IsHeaded rules after lines text last
headed_lines rules after reads lines text tail last kept ends = first_led rules after reads lines text tail last (led rules after reads 0 first_next lines text tail last kept ends) ends
