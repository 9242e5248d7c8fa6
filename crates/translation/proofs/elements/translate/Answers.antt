use Rattle.std.proofs.Common.{arith, string_bytes}
use Rattle.translation.proofs.Steps.{step_at, refusal_at}
use Rattle.translation.proofs.elements.translate.Goals as goal

pub loop-element-preserved : goal.loop-element-preserved
loop-element-preserved c =
    let done = c.loop-element.invariant in (
      omega arith,
      omega (arith, c.in-Ok.ensures.fewer),
      step_at c.args.target c.loop-element.place c.args.elements.now c.loop-element.element-index _ (string_bytes c.loop-element.text) (string_bytes c.push_element.new.text) c.loop-element.left_kinds.now c.in-Ok.left.now c.args.kinds.now _
          c.loop-element-test.true c.in-Ok.ensures.fewer done.1 done.2 c.in-Ok.ensures.steps,
    )

pub returns-in-Err-clause-refused : goal.returns-in-Err-clause-refused
returns-in-Err-clause-refused c =
    refusal_at c.args.target c.loop-element.place _ c.args.elements.now c.loop-element.element-index _ (string_bytes c.loop-element.text) c.loop-element.left_kinds.now _ c.in-Err.why
    c.loop-element-test.true c.loop-element.invariant.2 c.in-Err.ensures.refused
