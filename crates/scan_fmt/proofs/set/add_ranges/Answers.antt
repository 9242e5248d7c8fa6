use Rattle.std.proofs.Common.{◌≡◌, ◌∷◌, ◌∙◌, List, ℕ, ap, rules}
use Rattle.std.specs.Str.{chars}
use Rattle.std.proofs.lemmas.Str.{IsUtf8-past_char}
use Rattle.scan_fmt.specs.Inner.Spans.{is_covered}
use Rattle.scan_fmt.proofs.Tables.{lists_none, lists_pair, lists_single, lists_all}
use Rattle.scan_fmt.proofs.set.add_ranges.Goals as goal

pub listed-init : goal.listed-init
listed-init c = (c.utf8.ranges, lists_none (is_covered c.args.spans.now.items) (chars c.args.ranges.now))

pub listed-preserved-in-Some-range_end : goal.listed-preserved-in-Some-range_end
listed-preserved-in-Some-range_end c =
    let low = c.in-Some.low in
    let high = c.in-Some-range_end.high in
    let rest = chars c.in-Some-range_end.rest.now in
    let there : chars c.listed.ranges.now ≡ low ∷ 45 ∷ high ∷ rest = c.in-Some.ensures.some ∙ ap (λ (t : List ℕ). low ∷ t) c.in-Some-range_end.ensures.some in (
      search rules,
      lists_pair (is_covered c.listed.spans.items) (is_covered c.add_range.new.spans.items) (is_covered c.args.spans.now.items) (chars c.listed.ranges.now) (chars c.args.ranges.now) rest low high there c.in_ok-add_range.ensures c.listed.invariant.1,
    )

pub listed-preserved : goal.listed-preserved
listed-preserved c = (
  IsUtf8-past_char c.listed.ranges.now c.in-Some.rest.now c.in-Some.low c.listed.invariant.0 c.in-Some.ensures.bytes,
  lists_single (is_covered c.listed.spans.items) (is_covered c.add_range-in_default-range_end.new.spans.items) (is_covered c.args.spans.now.items) (chars c.listed.ranges.now) (chars c.args.ranges.now) (chars c.in-Some.rest.now) c.in-Some.low c.in-Some.ensures.some c.in_default-range_end.ensures.none
      c.in_ok-add_range-2.ensures c.listed.invariant.1,
)

pub returns : goal.returns
returns c = lists_all (is_covered c.listed.spans.items) (is_covered c.args.spans.now.items) (chars c.listed.ranges.now) (chars c.args.ranges.now) c.in_default.ensures.none c.listed.invariant.1
