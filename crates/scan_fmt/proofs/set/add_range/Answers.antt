use Rattle.std.proofs.Common.{◌≡◌, ◌∷◌, ◌++◌, [], refl}
use Rattle.scan_fmt.specs.declared.set.Span.{Span}
use Rattle.scan_fmt.proofs.Spans.{covered_more}
use Rattle.scan_fmt.proofs.set.add_range.Goals as goal

pub returns : goal.returns
returns c =
    let items = c.args.spans.now.items in
    let span : Span = record { low = c.args.low; reach = c.args.high } in
    let grown : c.push.new.self.items ≡ items ++ span ∷ [] = rw (c.push.ensures.items, c.if-is_err.ensures.negation) refl in
    covered_more items c.push.new.self.items span grown
