-- The names so far and then those of the other segments are all names.
use Rattle.std.proofs.Common.{◌≡◌, ◌++◌, map, drop}
use Rattle.formatx.specs.Inner.Parts.{names_in}
use Rattle.formatx.proofs.template.collect_names.Given as goal

abbrev pub invariant-segments : goal.invariant-segments
invariant-segments l = map (λ s. s.now) l.names.items ++ names_in l.source (drop l.segment-index l.segments) ≡ names_in l.source l.segments
