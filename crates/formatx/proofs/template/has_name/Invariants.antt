-- The name isn't among those so far.
use Rattle.std.proofs.Common.{drop}
use Rattle.std.specs.Prelude.{◌↔◌, Contains}
use Rattle.formatx.specs.Inner.Parts.{names_in}
use Rattle.formatx.proofs.template.has_name.Given as goal

abbrev pub invariant-segments : goal.invariant-segments
invariant-segments l = Contains (names_in l.source (drop l.segment-index l.segments)) l.name ↔ Contains (names_in l.source l.segments) l.name
