-- What a success wrote, in the words of plans, of translations and of tokens.
use Rattle.std.proofs.Common.{◌≡◌, ◌+◌, ◌++◌, ℕ, List, [], ◌∷◌, refl, sym, ap, ◌∙◌, subst, inl, inr, append_assoc, append-nil}
use Rattle.std.specs.Str.{IsUtf8}
use Rattle.std.proofs.lemmas.List.Elements.{All-from_recursion}
use Rattle.whiteread.specs.Lines.{lines_of}
use Rattle.line_job.specs.Ends.{Seen, SourceState, SinkState}
use Rattle.line_job.specs.Rules.{AreKept, AreAllKept, KeepsLine}
use Rattle.line_job.specs.Told.{RunsTold}
use Rattle.row_format.specs.Columns.{columns_of}
use Rattle.row_format.specs.Planned.{planned_text}
use Rattle.header_lines.specs.Message.{cause_message}
use Rattle.header_lines.specs.Heading.{first_next}
use Rattle.translation.specs.declared.target.Target.{Target}
use Rattle.plan_jobs.specs.Plan.{PlanStage, heading_next, format_next, planned, plan_rules, after as after_plan, Ends as PlanEnds}
use Rattle.plan_jobs.specs.Scan.{ScanStage, scan_rules, tab_joined, Keeps as KeepsTokens}
use Rattle.plan_jobs.specs.Translate.{TranslateStage, heading_next as target_next, format_next as translated_next, translated_to, translate_rules, after as after_target, Ends as TemplateEnds}
use Rattle.plan_jobs.specs.TranslateMessage.{translate_message}
use Rattle.plan_jobs.specs.Written.{IsPlanOf, PlansAll, IsTranslationOf, TranslatesAll, AreScanned, ScansAll}
use Rattle.plan_jobs.proofs.KeptLines.{maps, success, judged, not_judged, nothing, only_tail}
use Rattle.plan_jobs.proofs.Headings.{ReadsHeading, IsHeaded, headed_lines}

-- plans

plan_moves : (before : ℕ) (stage next : PlanStage) (lines : List (List ℕ)) (text : List ℕ) (last : PlanStage) → next ≡ stage → AreKept plan_rules before next lines text last → AreKept plan_rules before stage lines text last
plan_moves before stage next lines text last is kept = subst (λ (s : PlanStage). AreKept plan_rules before s lines text last) is kept

reads_plan : ReadsHeading plan_rules after_plan
reads_plan = record { judges = λ heading. refl; goes_on = λ heading tail ends. ends; keeps = λ heading number line text next keeps. keeps }

headed_plan : (lines : List (List ℕ)) (text owed tail : List ℕ) (last : PlanStage) → IsHeaded plan_rules after_plan lines owed last → PlanEnds last tail → text ≡ owed ++ tail → IsPlanOf lines text
headed_plan lines text owed tail last h ends e =
    let two = judged plan_rules h.before (format_next h.fields) h.others owed tail last refl (λ never. never) h.kept ends in
    let elements = two.keeps.1.0 in
    let plan : List ℕ = planned_text (columns_of elements) h.fields.kinds in
    let end = not_judged plan_rules (h.before + 1) (planned plan) two.others two.rest last refl (plan_moves (h.before + 1) (planned plan) two.next two.others two.rest last two.keeps.1.3 two.more) in
    let none : owed ≡ [] = nothing owed two.first two.rest two.text_is two.keeps.0 end.0 in
    record {
      heading = h.heading;
      fields = h.fields;
      format_line = two.line;
      others = two.others;
      elements = elements;
      lines_are = h.lines_are ∙ ap (λ (ls : List (List ℕ)). h.heading ++ ls) two.lines_are;
      heading_utf8 = All-from_recursion _ h.heading h.utf8;
      format_utf8 = two.utf8;
      says = h.says;
      spelled = two.keeps.1.1;
      plannable = two.keeps.1.2;
      text_is = only_tail text owed tail (plan ++ 10 ∷ []) e none (subst (λ (s : PlanStage). PlanEnds s tail) end.1 ends);
    }

is_plan : (lines : List (List ℕ)) (text : List ℕ) → AreAllKept plan_rules 0 (heading_next first_next) lines text → IsPlanOf lines text
is_plan lines text (owed, tail, last, kept, ends, e) = headed_plan lines text owed tail last (headed_lines plan_rules after_plan reads_plan lines owed tail last kept ends) ends e

pub told_plans : (limit : ℕ) (input : Seen SourceState) (output errors : Seen SinkState) (status : ℕ) → RunsTold plan_rules (heading_next first_next) cause_message limit input output errors status → status ≡ 0 → PlansAll input output
told_plans limit input output errors status told zero =
    maps input.before.rest _ _ (λ bytes here. (here.0, (here.1.0, is_plan (lines_of bytes) here.1.0 here.1.1, here.1.2)))
    (success plan_rules (heading_next first_next) limit input output told.result told.runs (sym told.status_is ∙ zero))

-- translations

template_moves : (before : ℕ) (stage next : TranslateStage) (lines : List (List ℕ)) (text : List ℕ) (last : TranslateStage) → next ≡ stage → AreKept translate_rules before next lines text last
    → AreKept translate_rules before stage lines text last
template_moves before stage next lines text last is kept = subst (λ (s : TranslateStage). AreKept translate_rules before s lines text last) is kept

reads_target : (target : Target) → ReadsHeading translate_rules (after_target target)
reads_target target = record { judges = λ heading. refl; goes_on = λ heading tail ends. ends; keeps = λ heading number line text next keeps. keeps }

headed_translation : (target : Target) (lines : List (List ℕ)) (text owed tail : List ℕ) (last : TranslateStage) → IsHeaded translate_rules (after_target target) lines owed last → TemplateEnds last tail → text ≡ owed ++ tail
    → IsTranslationOf target lines text
headed_translation target lines text owed tail last h ends e =
    let two = judged translate_rules h.before (translated_next target h.fields) h.others owed tail last refl (λ never. never) h.kept ends in
    let template = two.keeps.1.1 in
    let end = not_judged translate_rules (h.before + 1) (translated_to template) two.others two.rest last refl (template_moves (h.before + 1) (translated_to template) two.next two.others two.rest last two.keeps.1.4 two.more) in
    let none : owed ≡ [] = nothing owed two.first two.rest two.text_is two.keeps.0 end.0 in
    record {
      heading = h.heading;
      fields = h.fields;
      format_line = two.line;
      others = two.others;
      elements = two.keeps.1.0;
      template = template;
      lines_are = h.lines_are ∙ ap (λ (ls : List (List ℕ)). h.heading ++ ls) two.lines_are;
      heading_utf8 = All-from_recursion _ h.heading h.utf8;
      format_utf8 = two.utf8;
      says = h.says;
      spelled = two.keeps.1.2;
      template_is = two.keeps.1.3;
      text_is = only_tail text owed tail (template ++ 10 ∷ []) e none (subst (λ (s : TranslateStage). TemplateEnds s tail) end.1 ends);
    }

is_translation : (target : Target) (lines : List (List ℕ)) (text : List ℕ) → AreAllKept translate_rules 0 (target_next target first_next) lines text → IsTranslationOf target lines text
is_translation target lines text (owed, tail, last, kept, ends, e) =
    headed_translation target lines text owed tail last (headed_lines translate_rules (after_target target) (reads_target target) lines owed tail last kept ends) ends e

pub told_translates : (target : Target) (limit : ℕ) (input : Seen SourceState) (output errors : Seen SinkState) (status : ℕ) → RunsTold translate_rules (target_next target first_next) translate_message limit input output errors status
    → status ≡ 0 → TranslatesAll target input output
told_translates target limit input output errors status told zero =
    maps input.before.rest _ _ (λ bytes here. (here.0, (here.1.0, is_translation target (lines_of bytes) here.1.0 here.1.1, here.1.2)))
    (success translate_rules (target_next target first_next) limit input output told.result told.runs (sym told.status_is ∙ zero))

-- tokens

abbrev stage : List ℕ → ScanStage
stage format = record { format = format }

scanned_line : (format : List ℕ) (next : ScanStage) (number : ℕ) (line text : List ℕ) → KeepsLine scan_rules (stage format) number line text next → IsUtf8 line × KeepsTokens (stage format) number line text next
scanned_line format next number line text (inl h) = (h.1, h.2)
scanned_line format next number line text (inr h) = absurd (cc)

are_scanned : (format : List ℕ) (before : ℕ) (lines : List (List ℕ)) (text : List ℕ) (last : ScanStage) → AreKept scan_rules before (stage format) lines text last → AreScanned format lines text
are_scanned format before [] text last h = h.0
are_scanned format before (line ∷ lines) text last (first, rest, next, keeps, e, more) =
    let here = scanned_line format next (before + 1) line first keeps in
    let owed = here.1.0 in
    let moved = subst (λ (s : ScanStage). AreKept scan_rules (before + 1) s lines rest last) here.1.1 more in
    (owed.0, rest, here.0, owed.1, e ∙ ap (λ (t : List ℕ). t ++ rest) owed.2 ∙ append_assoc (tab_joined owed.0) (10 ∷ []) rest, are_scanned format (before + 1) lines rest last moved)

all_scanned : (format : List ℕ) (lines : List (List ℕ)) (text : List ℕ) → AreAllKept scan_rules 0 (stage format) lines text → AreScanned format lines text
all_scanned format lines text (owed, tail, last, kept, none, e) =
    subst (λ (t : List ℕ). AreScanned format lines t) (sym (e ∙ ap (λ (t : List ℕ). owed ++ t) none ∙ append-nil owed)) (are_scanned format 0 lines owed last kept)

pub told_scans : (format : List ℕ) (limit : ℕ) (input : Seen SourceState) (output errors : Seen SinkState) (status : ℕ) → RunsTold scan_rules (stage format) cause_message limit input output errors status → status ≡ 0 → ScansAll format input output
told_scans format limit input output errors status told zero =
    maps input.before.rest _ _ (λ bytes here. (here.0, (here.1.0, all_scanned format (lines_of bytes) here.1.0 here.1.1, here.1.2))) (success scan_rules (stage format) limit input output told.result told.runs (sym told.status_is ∙ zero))
