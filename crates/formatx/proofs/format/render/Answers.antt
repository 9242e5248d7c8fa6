-- What stands after a refusal.
use Rattle.std.proofs.Common.{◌≡◌, ◌<◌, List, Err, length, get_or, subst, arith, rules}
use Rattle.std.specs.Prelude.{string_bytes}
use Rattle.std.proofs.lemmas.Result.{err_from_is_err_and}
use Rattle.formatx.specs.Fault.{Tells}
use Rattle.formatx.specs.Scene.{scene_over}
use Rattle.formatx.specs.Text.{Holds, rendered, segment_text}
use Rattle.formatx.specs.declared.ast.Segment.{Segment}
use Rattle.formatx.specs.declared.ast.Segment.TheVariants.{Literal}
use Rattle.formatx.proofs.PrintLemmas.{print_fault_at}
use Rattle.formatx.proofs.format.render.Goals as goal

pub returns-in_err-push_segment-clause-stands : goal.returns-in_err-push_segment-clause-stands
returns-in_err-push_segment-clause-stands g c =
    let scene = scene_over g.V.FormatValue.meaning c.args.source.now c.args.args.now c.args.names.now c.args.strict in
    let segments = c.args.parsed.now.segments.items in
    let all = rendered scene 0 segments in
    let error = c.in_err-push_segment.field-0.0 in
    let first = Literal (record { start = 0; end = 0 }) in
    let inside : c.segments.segment-index < length segments = omega arith in
    let here : Tells error (λ fault. segment_text scene c.segments.next (get_or c.deref-segment-items.result.now c.segments.segment-index first) ≡ Err fault) = c.in_err-push_segment.ensures.err in
    let told = subst (λ (xs : List Segment). Tells error (λ fault. segment_text scene c.segments.next (get_or xs c.segments.segment-index first) ≡ Err fault)) c.deref-segment-items.ensures.value here in
    let both = print_fault_at (string_bytes c.args.output.now) (string_bytes c.segments.output) all scene c.segments.next segments c.segments.segment-index first error c.segments.invariant.printed inside told in
    let stands : Holds error (string_bytes c.args.output.now) (string_bytes c.push_segment.new.output) all.text = rw c.in_err-push_segment.ensures.unchanged both.1 in
    search (rules, stands)

pub returns-in_err-push_segment-clause-err : goal.returns-in_err-push_segment-clause-err
returns-in_err-push_segment-clause-err g c =
    let scene = scene_over g.V.FormatValue.meaning c.args.source.now c.args.args.now c.args.names.now c.args.strict in
    let segments = c.args.parsed.now.segments.items in
    let all = rendered scene 0 segments in
    let error = c.in_err-push_segment.field-0.0 in
    let first = Literal (record { start = 0; end = 0 }) in
    let inside : c.segments.segment-index < length segments = omega arith in
    let here : Tells error (λ fault. segment_text scene c.segments.next (get_or c.deref-segment-items.result.now c.segments.segment-index first) ≡ Err fault) = c.in_err-push_segment.ensures.err in
    let told = subst (λ (xs : List Segment). Tells error (λ fault. segment_text scene c.segments.next (get_or xs c.segments.segment-index first) ≡ Err fault)) c.deref-segment-items.ensures.value here in
    let both = print_fault_at (string_bytes c.args.output.now) (string_bytes c.segments.output) all scene c.segments.next segments c.segments.segment-index first error c.segments.invariant.printed inside told in
    let exit = err_from_is_err_and c.from_residual.result c.from_residual.ensures.1 in
    rw (exit.1, exit.2) both.0
