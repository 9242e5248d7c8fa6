-- The run ends where `position` finds a byte that is a brace.
use Rattle.std.proofs.Common.{◌≡◌, ◌∙◌, not, arith, rules, tests, ap, unwrap_or, length}
use Rattle.std.specs.List.{prefix_len}
use Rattle.formatx.specs.Words.{is_plain}
use Rattle.std.proofs.lemmas.Iterator.{YieldsList-from_slice}
use Rattle.std.proofs.lemmas.Iterator.Search.{position_from_yields_List}
use Rattle.std.proofs.lemmas.Bool.Decides.{nat_tests}
use Rattle.formatx.proofs.Runs.{run_from_position, run_boundary_before}
use Rattle.formatx.proofs.parser.plain_len.Goals as goal

pub returns-clause-len : goal.returns-clause-len
returns-clause-len c =
    let bytes = c.as_bytes-bytes.result.now in
    let found = position_from_yields_List (λ b. not (is_plain b)) _ _ c.position.result c.position.ensures.ran (YieldsList-from_slice bytes c.iter.ensures.rest) (λ x b q k. search (rules, tests)) in
    let run : unwrap_or c.position.result (length bytes) ≡ prefix_len is_plain bytes = run_from_position is_plain bytes c.position.result found in
    c.unwrap_or.ensures ∙ run ∙ ap (prefix_len is_plain) c.as_bytes-bytes.ensures.value

pub returns-clause-boundary : goal.returns-clause-boundary
returns-clause-boundary c =
    let end : c.unwrap_or.result ≡ prefix_len is_plain c.args.text.now = returns-clause-len c in
    rw end (run_boundary_before is_plain c.args.text.now (λ x h. grind (arith, nat_tests)))
