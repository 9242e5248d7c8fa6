use Rattle.std.proofs.Common.{◌≡◌, ◌∙◌, ℕ, List, map, sym, ap, subst}
use Rattle.values.specs.declared.kind.Kind.{Kind}
use Rattle.values.specs.Datum.{word_text}
use Rattle.row_format.specs.Columns.{Columns}
use Rattle.row_format.specs.Laws.{IsText}
use Rattle.columns.specs.Rows.{RowColumns}
use Rattle.printer.specs.Text.{Printing}
use Rattle.pieces.specs.Template.{Template}
use Rattle.rewriting.specs.Inner.Fast.{IsRowFormatOf}
use Rattle.rewriting.proofs.fast.Fast.new.Goals as goal

abbrev columns_by : Columns → List Kind → RowColumns
columns_by format kinds = record { format = format; kinds = kinds }

abbrev pieces_by : Printing → Columns → List Kind → Template
pieces_by printing format kinds = record { printing = printing; format = format; kinds = kinds }

agree : (text : List ℕ) (format : Columns) (kinds : List Kind) (printing : Printing) (columns : RowColumns) (pieces : Template) → IsRowFormatOf text format → columns ≡ columns_by format kinds → pieces ≡ pieces_by printing format kinds
    → IsText columns.format × (pieces.format ≡ columns.format) × (pieces.kinds ≡ columns.kinds)
agree text format kinds printing columns pieces is e f = (
  subst (λ (c : RowColumns). IsText c.format) (sym e) is.text,
  ap (λ (p : Template). p.format) f ∙ sym (ap (λ (c : RowColumns). c.format) e),
  ap (λ (p : Template). p.kinds) f ∙ sym (ap (λ (c : RowColumns). c.kinds) e),
)

pub invariant_of-result : goal.invariant_of-result
invariant_of-result c =
    let printing : Printing = record { dialect = c.args.dialect; template = c.args.template.now; names = map word_text c.args.fields.now.names.items } in
    let is : IsRowFormatOf c.args.format.now c.in-Some.format = rw c.in-Some.is at c.in_ok-format.ensures in
    let columns : c.in-Some-2.columns ≡ columns_by c.in-Some.format c.args.fields.now.kinds.items = rw (c.in-Some-2.is, c.deref.ensures.value) at c.in_ok-columns.ensures in
    let pieces : c.in-Some-3.pieces ≡ pieces_by printing c.in-Some.format c.args.fields.now.kinds.items = rw (c.in-Some-3.is, c.deref-2.ensures.value, c.deref-3.ensures.value) at c.in_ok-pieces.ensures in
    agree c.args.format.now c.in-Some.format c.args.fields.now.kinds.items printing c.in-Some-2.columns c.in-Some-3.pieces is columns pieces
