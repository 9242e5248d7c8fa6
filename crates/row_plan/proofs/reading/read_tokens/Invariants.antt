use Rattle.std.proofs.Common.{◌≡◌, ◌++◌, List, length, map}
use Rattle.std.specs.Str.{chars}
use Rattle.scan_fmt.specs.Slices.{slices_left}
use Rattle.values.specs.Datum.{Datum}
use Rattle.row_plan.specs.Inner.Reading.{kind_in, datum_in, EachFits}
use Rattle.row_plan.proofs.reading.read_tokens.Given as goal

-- values for what is left come after those so far, and any list of values goes on with values for what is left
abbrev pub invariant-fields : goal.invariant-fields
invariant-fields l = record {
  kinds : map kind_in l.values.items ++ l.kinds ≡ l.fn.kinds;
  values : (later : List Datum) → EachFits l.fields l.kinds (map chars (slices_left l.tokens)) later → EachFits l.fn.fields l.fn.kinds (map chars (slices_left l.fn.tokens)) (map datum_in l.values.items ++ later);
  none : ((later : List Datum) → ¬ EachFits l.fields l.kinds (map chars (slices_left l.tokens)) later) → (all : List Datum) → ¬ EachFits l.fn.fields l.fn.kinds (map chars (slices_left l.fn.tokens)) all;
}

abbrev pub decreases-fields : goal.decreases-fields
decreases-fields l = length l.fields
