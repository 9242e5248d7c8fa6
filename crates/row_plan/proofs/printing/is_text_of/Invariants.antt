use Rattle.std.proofs.Common.{◌≡◌, ◌↔◌, length, map}
use Rattle.row_format.specs.Columns.{columns_text}
use Rattle.row_plan.specs.Inner.Reading.{kind_in, datum_in}
use Rattle.row_plan.proofs.printing.is_text_of.Given as goal

-- the line is the text of all where what is left of it is the text of what is left
abbrev pub invariant-fields : goal.invariant-fields
invariant-fields l =
    (l.line ≡ columns_text l.fields (map kind_in l.values) (map datum_in l.values)) ↔ (l.fn.line ≡ columns_text l.fn.fields (map kind_in l.fn.values) (map datum_in l.fn.values))

abbrev pub decreases-fields : goal.decreases-fields
decreases-fields l = length l.fields
