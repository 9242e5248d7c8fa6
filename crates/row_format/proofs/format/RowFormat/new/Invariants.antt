use Rattle.std.proofs.Common.{◌≡◌, ◌++◌, string_bytes, length}
use Rattle.row_format.specs.Columns.{columns_of}
use Rattle.row_format.specs.Laws.{AreTexts}
use Rattle.row_format.specs.Inner.Elements.{BeginsWithField}
use Rattle.row_format.proofs.format.RowFormat.new.Given as goal

-- the columns so far, and those that are left
abbrev pub invariant-fields : goal.invariant-fields
invariant-fields l = record {
  whole : columns_of l.fn.elements ≡ record { head = string_bytes l.head; columns = l.fields.items ++ (columns_of l.rest).columns };
  field : BeginsWithField l.rest;
  texts : AreTexts l.fields.items;
}

abbrev pub decreases-fields : goal.decreases-fields
decreases-fields l = length l.rest
