-- A row of a plan is a row of the format that was planned.
use Rattle.std.proofs.Common.{◌≡◌, ◌++◌, ℕ, List, [], ◌∷◌, map, sym, ap, ◌∙◌, subst, refl, inl, inr, append_assoc, Option, Some, None, IfSome, Result, Ok, Err, OnOk}
use Rattle.sprintf.specs.declared.PrintfError.{PrintfError}
use Rattle.values.specs.declared.kind.Kind.{Kind}
use Rattle.values.specs.declared.value.Value.{Value}
use Rattle.values.specs.Datum.{Datum, kind_of, datum_of}
use Rattle.row_format.specs.Columns.{Columns, columns_of, row_text}
use Rattle.row_format.specs.Fit.{AreFit}
use Rattle.row_format.specs.Laws.{HasOneList, IsText, PrintsColumns}
use Rattle.row_format.specs.Plannable.{IsPlannable, IsUnpaired, Never}
use Rattle.row_format.specs.Row.{IsRow as IsPlanRow}
use Rattle.row_plan.specs.Plan.{IsRead}
use Rattle.printer.specs.declared.dialect.Dialect.{Dialect}
use Rattle.printer.specs.declared.dialect.Dialect.TheVariants.{Printf}
use Rattle.printer.specs.Text.{Printing, Prints}
use Rattle.printer.specs.declared.error.RenderFault.{RenderFault}
use Rattle.line_job.specs.declared.job.Refusal.{Refusal}
use Rattle.line_job.specs.declared.job.Refusal.TheVariants.{Line, NoMemory}
use Rattle.line_job.specs.Refusal.{IfRefused}
use Rattle.header_lines.specs.declared.cause.LineCause.{LineCause}
use Rattle.header_lines.specs.declared.cause.LineCause.TheVariants.{Render}
use Rattle.header_lines.proofs.ClearHeaders.{header_lines_are_clear}
use Rattle.header_lines.specs.declared.heading.Version.{Version}
use Rattle.rewriting.specs.declared.rows.Source.{Source}
use Rattle.rewriting.specs.Rewrite.{Layout, IsRow, IsRowOf, Renders, IsRewrittenAs}
use Rattle.rewriting.specs.Rules.{rows_next, Keeps, RefusesRow}
use Rattle.rewriting.specs.Inner.Fast.{FastWay, HasWritten, IsWayOf, IsWritten}
use Rattle.rewriting.specs.Inner.State.{layout_of, IsSoundSource, IsNoRow, IsWayTo}

abbrev row_is : List ℕ → Result (List ℕ) PrintfError
row_is row = Ok row

row_of_plan : PrintsColumns → (source : Source) (row : List ℕ) (values : List Datum) → IsSoundSource source → IsPlanRow source.plan.format source.plan.kinds row values → IsRow source.plan.kinds source.text.now row values
row_of_plan prints source row values sound is =
    let fit : AreFit (columns_of sound.elements).columns source.plan.kinds values = subst (λ (c : Columns). AreFit c.columns source.plan.kinds values) sound.columns is.fit in
    let text : row ≡ row_text (columns_of sound.elements) source.plan.kinds values = is.text ∙ ap (λ (c : Columns). row_text c source.plan.kinds values) sound.columns in
    record { elements = sound.elements; spelled = sound.spelled; fit = fit; prints = prints sound.elements source.plan.kinds values sound.plannable.paired fit ∙ sym (ap Ok text) }

plan_row : PrintsColumns → (source : Source) (row : List ℕ) (values : List Datum) → IsSoundSource source → IsRow source.plan.kinds source.text.now row values → IsPlanRow source.plan.format source.plan.kinds row values
plan_row prints source row values sound is =
    let kinds : List Kind = source.plan.kinds in
    let same : columns_of is.elements ≡ columns_of sound.elements = header_lines_are_clear.one_thing.columns source.text.now is.elements sound.elements is.spelled sound.spelled in
    let all : columns_of is.elements ≡ source.plan.format = same ∙ sym sound.columns in
    let paired : Never IsUnpaired (columns_of is.elements).columns kinds = subst (λ (c : Columns). Never IsUnpaired c.columns kinds) (sym same) sound.plannable.paired in
    let texts : row_is row ≡ row_is (row_text (columns_of is.elements) kinds values) = sym is.prints ∙ prints is.elements kinds values paired is.fit in
    let text : row ≡ row_text (columns_of is.elements) kinds values = cc in
    record { fit = subst (λ (c : Columns). AreFit c.columns kinds values) all is.fit; text = text ∙ ap (λ (c : Columns). row_text c kinds values) all }

row_of : PrintsColumns → (version : Version) (source : Source) (printing : Printing) (row : List ℕ) (values : List Value) → IsSoundSource source → IsRead source.plan row values → IsRowOf (layout_of version source printing) row (map datum_of values)
row_of prints version source printing row values sound read = record {
  is_row = row_of_plan prints source row (map datum_of values) sound read.row;
  only = λ others is. read.only others (plan_row prints source row others sound is);
}

-- what the printer prints of the values, it prints by the layout
renders : (version : Version) (source : Source) (printing : Printing) (values : List Value) (outcome : Result (List ℕ) RenderFault) → map kind_of values ≡ source.plan.kinds
    → Prints printing (map kind_of values) (map datum_of values) outcome → Renders (layout_of version source printing) (map datum_of values) outcome
renders version source printing values outcome kinds prints = subst (λ (k : List Kind). Prints printing k (map datum_of values) outcome) kinds prints

abbrev text_is : List ℕ → Result (List ℕ) RenderFault
text_is line = Ok line

abbrev fault_is : RenderFault → Result (List ℕ) RenderFault
fault_is fault = Err fault

pub rewritten : PrintsColumns → (version : Version) (source : Source) (printing : Printing) (row line : List ℕ) (values : List Value) → IsSoundSource source → IsRead source.plan row values
    → Prints printing (map kind_of values) (map datum_of values) (text_is line) → IsRewrittenAs (layout_of version source printing) row line
rewritten prints version source printing row line values sound read text =
    (map datum_of values, row_of prints version source printing row values sound read, renders version source printing values (text_is line) read.kinds text)

pub unrendered : PrintsColumns → (version : Version) (source : Source) (printing : Printing) (number : ℕ) (row : List ℕ) (fault : RenderFault) (values : List Value) → IsSoundSource source → IsRead source.plan row values
    → Prints printing (map kind_of values) (map datum_of values) (fault_is fault) → RefusesRow (layout_of version source printing) number row (Render number fault)
unrendered prints version source printing number row fault values sound read text =
    inr (map datum_of values, fault, row_of prints version source printing row values sound read, renders version source printing values (fault_is fault) read.kinds text, refl)

unread : PrintsColumns → (version : Version) (source : Source) (printing : Printing) (number : ℕ) (row : List ℕ) (why : LineCause) → IsSoundSource source → IsNoRow source.plan number row why → RefusesRow (layout_of version source printing) number row why
unread prints version source printing number row why sound none = inl ((λ values is. none.0 values (plan_row prints source row values sound is)), none.1)

pub on_ok : {T E A B : Type 0} (r : Result T E) → (A → B) → OnOk r A → OnOk r B
on_ok (Ok t) f h = f h
on_ok (Err e) f h = tt

-- what is owed for a row that is rewritten
pub keeps_row : {E : Type 0} (result : Result Unit E) (layout : Layout) (number : ℕ) (row old new : List ℕ) → OnOk result ((line : List ℕ) × IsRewrittenAs layout row line × (new ≡ old ++ (line ++ 10 ∷ [])))
    → OnOk result ((text : List ℕ) × Keeps (rows_next layout) number row text (rows_next layout) × (new ≡ old ++ text))
keeps_row result layout number row old new kept = on_ok result (λ h. (h.0 ++ 10 ∷ [], ((h.0, h.1, refl), refl), h.2)) kept

pub ended : (old text mid new : List ℕ) → mid ≡ old ++ text → new ≡ mid ++ 10 ∷ [] → new ≡ old ++ (text ++ 10 ∷ [])
ended old text mid new e f = f ∙ ap (λ (t : List ℕ). t ++ 10 ∷ []) e ∙ append_assoc old text (10 ∷ [])

-- the same, where the code sees a slice of the values
pub printed_of : (printing : Printing) (seen values : List Value) (outcome : Result (List ℕ) RenderFault) → seen ≡ values → Prints printing (map kind_of seen) (map datum_of seen) outcome → Prints printing (map kind_of values) (map datum_of values) outcome
printed_of printing seen values outcome same prints = subst (λ (vs : List Value). Prints printing (map kind_of vs) (map datum_of vs) outcome) same prints

abbrev pub not_read : Refusal LineCause → Result Unit (Refusal LineCause)
not_read why = Err why

-- the refusal of a row that has no values, as that of the job
pub unread_if : PrintsColumns → (version : Version) (source : Source) (printing : Printing) (number : ℕ) (row : List ℕ) (why : Refusal LineCause) → IsSoundSource source → IfRefused (not_read why) (IsNoRow source.plan number row) → IfRefused (not_read why) (RefusesRow (layout_of version source printing) number row)
unread_if prints version source printing number row (Line cause) sound none = unread prints version source printing number row cause sound none
unread_if prints version source printing number row NoMemory sound none = tt

-- what the fast way has written is the line that the row is rewritten as
pub fast_rewritten : PrintsColumns → HasOneList → (version : Version) (source : Source) (printing : Printing) (way : FastWay) (row old new : List ℕ) → IsSoundSource source → IsWayTo source printing way → IsWritten way row old new
    → (line : List ℕ) × IsRewrittenAs (layout_of version source printing) row line × (new ≡ old ++ (line ++ 10 ∷ []))
fast_rewritten columns one version source printing way row old new sound is written =
    let plannable : IsPlannable source.plan.format.columns source.plan.kinds = subst (λ (c : Columns). IsPlannable c.columns source.plan.kinds) (sym sound.columns) sound.plannable in
    let text : IsText source.plan.format = subst IsText is.format written.text in
    let is_row : IsPlanRow source.plan.format source.plan.kinds row written.values =
    subst (λ (k : List Kind). IsPlanRow source.plan.format k row written.values) is.kinds (subst (λ (c : Columns). IsPlanRow c way.kinds row written.values) is.format written.is_row) in
    let of_row : IsRowOf (layout_of version source printing) row written.values = record {
      is_row = row_of_plan columns source row written.values sound is_row;
      only = λ others other. one source.plan.format source.plan.kinds row others written.values text plannable (plan_row columns source row others sound other) is_row;
    } in
    let prints : Renders (layout_of version source printing) written.values (text_is written.line) =
    subst (λ (k : List Kind). Prints printing k written.values (text_is written.line)) is.kinds (subst (λ (p : Printing). Prints p way.kinds written.values (text_is written.line)) is.printing_is written.prints) in
    (written.line, (written.values, of_row, prints), written.grown)

-- the same, where the way is one that may be missing
pub if_rewritten : PrintsColumns → HasOneList → (version : Version) (source : Source) (printing : Printing) (way : Option FastWay) (row old new : List ℕ) → IsSoundSource source → IfSome way (IsWayTo source printing)
    → HasWritten way row old new → (line : List ℕ) × IsRewrittenAs (layout_of version source printing) row line × (new ≡ old ++ (line ++ 10 ∷ []))
if_rewritten columns one version source printing (Some way) row old new sound is written = fast_rewritten columns one version source printing way row old new sound is written
if_rewritten columns one version source printing None row old new sound is written = absurd written

-- the way that was made of the headers' texts is that of the source
pub way_found : (source : Source) (printing : Printing) (kinds : List Kind) (found : Option FastWay) → IsSoundSource source → source.plan.kinds ≡ kinds → IfSome found (IsWayOf source.text.now kinds printing) → IfSome found (IsWayTo source printing)
way_found source printing kinds (Some way) sound same is =
    let columns : columns_of is.elements ≡ columns_of sound.elements = header_lines_are_clear.one_thing.columns source.text.now is.elements sound.elements is.spelled sound.spelled in
    record { format = is.format_is ∙ columns ∙ sym sound.columns; kinds = is.kinds_are ∙ sym same; printing_is = is.printing_is }
way_found source printing kinds None sound same is = tt
