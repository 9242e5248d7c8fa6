-- A planned text reads its rows back, once one field does; so no text is the row of two lists of values.
use Rattle.std.proofs.Common.{◌≡◌, ℕ, List, map, sym, ap, subst, refl, ◌∙◌, Ok}
use Rattle.std.specs.Str.{chars}
use Rattle.scan_fmt.specs.Scanned.{Token, Scanned, ScannedTexts}
use Rattle.scan_fmt.proofs.OneAnswer.{one_answer}
use Rattle.scan_fmt.proofs.SomeAnswer.{some_answer}
use Rattle.row_format.specs.Columns.{row_text}
use Rattle.row_format.specs.Laws.{ReadsBack, HasOneList}
use Rattle.row_format.specs.Planned.{planned_text}
use Rattle.row_format.specs.Row.{EachReads}
use Rattle.row_laws.specs.Inner.Directives.{FieldReads, planned_directives}
use Rattle.row_laws.proofs.Cutting.{planned_cut}
use Rattle.row_laws.proofs.Induction.{row_takes}
use Rattle.row_laws.proofs.OneList.{reads_to_one_list}

pub reads_back_from : FieldReads → ReadsBack
reads_back_from fields format kinds values texts text plan fit scanned =
    let row = row_takes fields format kinds values text plan fit in
    let input = chars (row_text format kinds values) in
    let own : Scanned input (chars (planned_text format kinds)) row.0 = record {
      directives = planned_directives format kinds;
      out = Ok row.0;
      cut = planned_cut format kinds text plan.paired;
      takes = row.1;
      tokens_are = refl;
    } in
    let same : row.0 ≡ scanned.0 = one_answer input (chars (planned_text format kinds)) row.0 scanned.0 own scanned.1 in
    subst (λ (ts : List (List ℕ)). EachReads format.columns kinds ts values) (ap (λ (ts : List Token). map (λ (t : Token). t.text) ts) same ∙ sym scanned.2) row.2

pub has_one_list_from : FieldReads → HasOneList
has_one_list_from fields format kinds line a b text plan one two =
    let scan = some_answer (chars line) (chars (planned_text format kinds)) in
    let texts = map (λ (t : Token). t.text) scan.0 in
    let scanned : ScannedTexts (chars line) (chars (planned_text format kinds)) texts = (scan.0, scan.1, refl) in
    let over = λ (row : List ℕ). ScannedTexts (chars row) (chars (planned_text format kinds)) texts in
    reads_to_one_list format.columns kinds texts a b
    (reads_back_from fields format kinds a texts text plan one.fit (subst over one.text scanned))
    (reads_back_from fields format kinds b texts text plan two.fit (subst over two.text scanned))
