use Rattle.std.proofs.Common.{◌∙◌, sym, rules}
use Rattle.std.proofs.lemmas.List.Sorted.{IsNonDecreasingBy-from_sort_by_key, list_any-IsPermutation}
use Rattle.scan_fmt.specs.declared.set.Span.{Span}
use Rattle.scan_fmt.specs.Inner.Spans.{is_between}
use Rattle.scan_fmt.specs.Inner.Spans.{low_of}
use Rattle.scan_fmt.proofs.set.order.Goals as goal

pub raise-requires : goal.raise-requires
raise-requires c = IsNonDecreasingBy-from_sort_by_key low_of _ c.sort_unstable_by_key.ensures.sorted (λ a r q k. search rules)

pub returns-clause-covered : goal.returns-clause-covered
returns-clause-covered c = λ b. c.raise.ensures.covered b ∙ sym (list_any-IsPermutation (λ (s : Span). is_between s.low s.reach b) _ _ c.sort_unstable_by_key.ensures.permutation)
