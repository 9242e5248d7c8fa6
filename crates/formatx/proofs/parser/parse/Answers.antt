-- Each turn reads one segment more.
use Rattle.std.proofs.Common.{◌≡◌, ◌∷◌, [], ◌++◌, arith, rules, subst, sym}
use Rattle.std.proofs.lemmas.Bool.Decides.{nat_tests}
use Rattle.std.specs.Prelude.{List}
use Rattle.formatx.specs.Fault.{Tells}
use Rattle.formatx.specs.Grammar.{IsTemplate}
use Rattle.formatx.specs.declared.ast.Segment.{Segment}
use Rattle.formatx.proofs.ReadingLemmas.{IsReadTo, read_more, first_fault, not_both, tells_wider}
use Rattle.formatx.proofs.parser.parse.Goals as goal

pub segments-preserved : goal.segments-preserved
segments-preserved c =
    let pushed : c.push.new.self.items ≡ c.segments.segments.items ++ c.in_ok-segment.segment ∷ [] = grind (arith, nat_tests) in
    let read = read_more c.args.source.now c.segments.rest.now c.in_ok-segment.after.now c.segments.segments.items c.in_ok-segment.segment c.segments.invariant.1 c.in_ok-segment.ensures.leaves c.in_ok-segment.ensures.ok c.in_ok-segment.ensures.fits in
    (search rules, subst (λ (xs : List Segment). IsReadTo c.args.source.now c.in_ok-segment.after.now xs) (sym pushed) read)

pub returns-in_err-segment-clause-outside : goal.returns-in_err-segment-clause-outside
returns-in_err-segment-clause-outside c =
    let source = c.args.source.now in
    let told : Tells c.in_err-segment.field-0.0 (λ _. IsTemplate source → ⊥) =
    tells_wider c.in_err-segment.field-0.0 _ (λ _. IsTemplate source → ⊥) (λ fault first template. not_both source fault template.0 (first_fault source c.segments.rest.now c.segments.segments.items fault c.segments.invariant.1.spelled first) template.1) c.in_err-segment.ensures.err in
    search (rules, told)
