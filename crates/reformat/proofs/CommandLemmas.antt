-- What the words of the program say, and what was done by them.
use Rattle.std.proofs.Common.{◌≡◌, ◌≢◌, ◌<◌, ◌≤◌, ℕ, List, [], ◌∷◌, refl, sym, ap, ◌∙◌, subst, inl, inr, false, length, get_or, map, decimal, arith, Option, Some, None, MatchOption}
use Rattle.std.proofs.lemmas.Fmt.{decimal_injective}
use Rattle.numerals.specs.Numeral.{numeral}
use Rattle.numerals.proofs.Steps.{numeral-injective}
use Rattle.numerals.proofs.Unique.{numeral-digits}
use Rattle.values.specs.Decimal.{IsDecimal}
use Rattle.translation.specs.declared.target.Target.{Target}
use Rattle.translation.specs.declared.target.Target.TheVariants.{Strfmt, Formatx}
use Rattle.line_job.specs.Ends.{Seen, SourceState, SinkState, Took}
use Rattle.line_job.specs.Told.{RunsTold}
use Rattle.header_lines.specs.Heading.{first_next}
use Rattle.header_lines.specs.Message.{cause_message}
use Rattle.plan_jobs.specs.Plan.{plan_rules, heading_next as plan_heading}
use Rattle.plan_jobs.specs.Scan.{scan_rules}
use Rattle.plan_jobs.specs.Translate.{translate_rules, heading_next as translate_heading}
use Rattle.plan_jobs.specs.TranslateMessage.{translate_message}
use Rattle.sample_job.specs.Summary.{IsSummary}
use Rattle.sample_job.specs.Samples.{Samples}
use Rattle.reformat.specs.declared.command.Command.{Command}
use Rattle.reformat.specs.declared.command.Command.TheVariants.{Rewrite, Plan, Scan, Translate, Sample}
use Rattle.rewriting.specs.Rules.{rewrite_rules, heading_next}
use Rattle.reformat.specs.Run.{rewrite_words, plan_words, scan_words, target_word, translate_words, sample_words, sample_limit, IsCommand, input_limit}
use Rattle.reformat.specs.Inner.Said.{IsSaid, IsWithin, Does, Leaves}

pub said : (words : List (List ℕ)) (command : Command) → IsSaid words command → IsCommand words
said words Rewrite is = inl is
said words Plan is = inr (inl is)
said words (Scan format) is = inr (inr (inl (format.now, is)))
said words (Translate target) is = inr (inr (inr (inl (target, is))))
said words (Sample n) is = inr (inr (inr (inr (n, is.0, is.1))))

pub said_within : (words : List (List ℕ)) (command : Command) → IsSaid words command → IsWithin command
said_within words Rewrite is = tt
said_within words Plan is = tt
said_within words (Scan format) is = tt
said_within words (Translate target) is = tt
said_within words (Sample n) is = is.0

pub said_rewrite : (words : List (List ℕ)) (command : Command) (input : Seen SourceState) (output errors : Seen SinkState) (status : ℕ) → IsSaid words command → Does command input output errors status → words ≡ rewrite_words
    → RunsTold rewrite_rules (heading_next first_next) cause_message input_limit input output errors status
said_rewrite words Rewrite input output errors status is does e = does
said_rewrite words Plan input output errors status is does e = absurd (cc)
said_rewrite words (Scan format) input output errors status is does e = absurd (cc)
said_rewrite words (Translate target) input output errors status is does e = absurd (cc)
said_rewrite words (Sample n) input output errors status is does e = absurd (cc (is.1))

pub said_plan : (words : List (List ℕ)) (command : Command) (input : Seen SourceState) (output errors : Seen SinkState) (status : ℕ) → IsSaid words command → Does command input output errors status → words ≡ plan_words
    → RunsTold plan_rules (plan_heading first_next) cause_message input_limit input output errors status
said_plan words Rewrite input output errors status is does e = absurd (cc)
said_plan words Plan input output errors status is does e = does
said_plan words (Scan format) input output errors status is does e = absurd (cc)
said_plan words (Translate target) input output errors status is does e = absurd (cc)
said_plan words (Sample n) input output errors status is does e = absurd (cc (is.1))

pub said_scan : (words : List (List ℕ)) (command : Command) (input : Seen SourceState) (output errors : Seen SinkState) (status : ℕ) → IsSaid words command → Does command input output errors status → (text : List ℕ) → words ≡ scan_words text
    → RunsTold scan_rules (record { format = text }) cause_message input_limit input output errors status
said_scan words Rewrite input output errors status is does text e = absurd (cc)
said_scan words Plan input output errors status is does text e = absurd (cc)
said_scan words (Scan format) input output errors status is does text e =
    let both : scan_words format.now ≡ scan_words text = sym is ∙ e in
    let same : format.now ≡ text = cc in
    subst (λ (t : List ℕ). RunsTold scan_rules (record { format = t }) cause_message input_limit input output errors status) same does
said_scan words (Translate target) input output errors status is does text e = absurd (cc)
said_scan words (Sample n) input output errors status is does text e = absurd (cc (is.1))

-- a target has a word of its own
one_target : (a b : Target) → target_word a ≡ target_word b → a ≡ b
one_target Strfmt Strfmt e = refl
one_target Strfmt Formatx e = absurd (cc)
one_target Formatx Strfmt e = absurd (cc)
one_target Formatx Formatx e = refl

pub said_translate : (words : List (List ℕ)) (command : Command) (input : Seen SourceState) (output errors : Seen SinkState) (status : ℕ) → IsSaid words command → Does command input output errors status → (wanted : Target) → words ≡ translate_words wanted
    → RunsTold translate_rules (translate_heading wanted first_next) translate_message input_limit input output errors status
said_translate words Rewrite input output errors status is does wanted e = absurd (cc)
said_translate words Plan input output errors status is does wanted e = absurd (cc)
said_translate words (Scan format) input output errors status is does wanted e = absurd (cc)
said_translate words (Translate target) input output errors status is does wanted e =
    let both : translate_words target ≡ translate_words wanted = sym is ∙ e in
    let same : target_word target ≡ target_word wanted = cc in
    subst (λ (t : Target). RunsTold translate_rules (translate_heading t first_next) translate_message input_limit input output errors status) (one_target target wanted same) does
said_translate words (Sample n) input output errors status is does wanted e = absurd (cc (is.1))

pub said_sample : (words : List (List ℕ)) (command : Command) (input : Seen SourceState) (output errors : Seen SinkState) (status : ℕ) → IsSaid words command → Does command input output errors status → (m : ℕ) → m ≤ sample_limit → words ≡ sample_words m
    → Samples m output errors status
said_sample words Rewrite input output errors status is does m small e = absurd (cc)
said_sample words Plan input output errors status is does m small e = absurd (cc)
said_sample words (Scan format) input output errors status is does m small e = absurd (cc)
said_sample words (Translate target) input output errors status is does m small e = absurd (cc)
said_sample words (Sample n) input output errors status is does m small e =
    let both : sample_words n ≡ sample_words m = sym is.1 ∙ e in
    let same : decimal n ≡ decimal m = cc in
    subst (λ (k : ℕ). Samples k output errors status) (decimal_injective n m (omega (arith, is.0)) (omega (arith, small)) same) does

pub said_leaves : {S : Type 0} (words : List (List ℕ)) (command : Command) (old new : S) → IsSaid words command → Leaves command old new → (m : ℕ) → words ≡ sample_words m → new ≡ old
said_leaves words Rewrite old new is leaves m e = absurd (cc)
said_leaves words Plan old new is leaves m e = absurd (cc)
said_leaves words (Scan format) old new is leaves m e = absurd (cc)
said_leaves words (Translate target) old new is leaves m e = absurd (cc)
said_leaves words (Sample n) old new is leaves m e = leaves

-- status 0 over a sample is that of its summary
pub summary_written : (n : ℕ) (output errors : Seen SinkState) (status : ℕ) → Samples n output errors status → status ≡ 0 → (line : List ℕ) × IsSummary n line × Took output line
summary_written n output errors status (inl sums) zero = (sums.line, sums.summary, sums.took)
summary_written n output errors status (inr (inl fails)) zero = absurd (omega (arith, fails.status_is, zero))
summary_written n output errors status (inr (inr lacks)) zero = absurd (omega (arith, lacks.status_is, zero))

-- words, one by one

pub one_is : {A : Type 0} (f : A → List ℕ) (words : List A) (only : A) (text : List ℕ) → length words ≡ 1 → only ≡ get_or words 0 only → text ≡ f only → map f words ≡ text ∷ []
one_is f [] only text one is same = absurd (omega arith)
one_is f (x ∷ []) only text one is same = ap (λ (t : List ℕ). t ∷ []) (sym (ap f is) ∙ sym same)
one_is f (x ∷ y ∷ words) only text one is same = absurd (omega arith)

pub two_are : {A : Type 0} (f : A → List ℕ) (words : List A) (first second : A) (text other : List ℕ) → length words ≡ 2 → first ≡ get_or words 0 first → second ≡ get_or words 1 second → text ≡ f first → other ≡ f second
    → map f words ≡ text ∷ other ∷ []
two_are f [] first second text other two is also same too = absurd (omega arith)
two_are f (x ∷ []) first second text other two is also same too = absurd (omega arith)
two_are f (x ∷ y ∷ []) first second text other two is also same too = ap (λ (t : List ℕ). t ∷ f y ∷ []) (sym (ap f is) ∙ sym same) ∙ ap (λ (t : List ℕ). text ∷ t ∷ []) (sym (ap f also) ∙ sym too)
two_are f (x ∷ y ∷ z ∷ words) first second text other two is also same too = absurd (omega arith)

pub said_of : (a b : List (List ℕ)) (r : Option Command) → a ≡ b → MatchOption r (¬ IsCommand b) (IsSaid b) → MatchOption r (¬ IsCommand a) (IsSaid a)
said_of a b r same h = subst (λ (words : List (List ℕ)). MatchOption r (¬ IsCommand words) (IsSaid words)) (sym same) h

-- numbers of rows

-- a number of rows in decimal is its numeral
decimal-numeral : (n : ℕ) → n ≤ sample_limit → decimal n ≡ numeral 10 false n
decimal-numeral n small = sym (numeral-digits 10 n false (omega arith) (omega (arith, small)))

-- a word that is no number in decimal is no number of rows
pub no_rows : (word : List ℕ) → IsDecimal word None → (n : ℕ) → n ≤ sample_limit → word ≢ decimal n
no_rows word none n small e = none n (omega (arith, small)) (e ∙ decimal-numeral n small)

pub too_many_rows : (word : List ℕ) (number : ℕ) → IsDecimal word (Some number) → sample_limit < number → (n : ℕ) → n ≤ sample_limit → word ≢ decimal n
too_many_rows word number is large n small e =
    let same : number ≡ n = numeral-injective 10 number n false (omega arith) (omega arith) (omega (arith, is.0)) (omega (arith, small)) (sym is.1 ∙ e ∙ decimal-numeral n small) in
    absurd (omega (arith, same, large, small))

-- a number in decimal says so many rows
pub rows_said : (word : List ℕ) (number : ℕ) → IsDecimal word (Some number) → number ≤ sample_limit → word ≡ decimal number
rows_said word number is small = is.1 ∙ sym (decimal-numeral number small)
