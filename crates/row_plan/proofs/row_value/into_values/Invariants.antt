use Rattle.std.proofs.Common.{◌≡◌, map}
use Rattle.values.specs.Datum.{kind_of, datum_of}
use Rattle.row_plan.specs.Inner.Reading.{kind_in, datum_in}
use Rattle.row_plan.proofs.row_value.into_values.Given as goal

-- the values so far have words of their own
abbrev pub invariant-values : goal.invariant-values
invariant-values l = record {
  kinds : map kind_of l.owned.items ≡ map kind_in l.yielded;
  held : map datum_of l.owned.items ≡ map datum_in l.yielded;
}
