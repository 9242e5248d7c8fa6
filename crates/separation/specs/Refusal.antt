-- Why a format can't be read back, and at which field.
use Rattle.std.specs.Prelude.{List}
use Rattle.values.specs.declared.kind.Kind.{Kind}
use Rattle.row_format.specs.Columns.{Column}
use Rattle.row_format.specs.Plannable.{IsUnpaired, IsLossy, RunsOn, Never, FirstAt}
use Rattle.separation.specs.declared.Refused.{Refused}
use Rattle.separation.specs.declared.Refused.TheVariants.{Kind as OfKind, Lossy, RunsOn as OfRunsOn}

-- The refusal is at the first field that has no kind that goes with it; if there is none, at the first word that may be cut; and if there is none, at the first field that runs on.
abbrev pub IsRefused : List Column → List Kind → Refused → Type 0
IsRefused columns kinds (OfKind field) = FirstAt IsUnpaired columns kinds field
IsRefused columns kinds (Lossy field) = Never IsUnpaired columns kinds × FirstAt IsLossy columns kinds field
IsRefused columns kinds (OfRunsOn field) = Never IsUnpaired columns kinds × Never IsLossy columns kinds × FirstAt RunsOn columns kinds field
