use Rattle.std.proofs.Common.{◌≡◌, ◌≤◌, leb, ltb, ℕ, zero, suc, false, refl, rules, arith, ◌∙◌, sym}
use Rattle.std.proofs.lemmas.List.Sorted.{IsPartitionPoint-from_clause, IsPartitionedBy-leb}
use Rattle.scan_fmt.specs.Inner.Spans.{low_of}
use Rattle.scan_fmt.proofs.Spans.{looked_up, looked_past}
use Rattle.scan_fmt.proofs.set.is_covered.Goals as goal

not_less : (n : ℕ) → n ≤ 0 → ltb 0 n ≡ false
not_less zero h = refl
not_less (suc n) h = absurd (omega arith)

pub returns-then-count-gt0 : goal.returns-then-count-gt0
returns-then-count-gt0 c =
    let parted = IsPartitionedBy-leb low_of _ c.args.c c.requires.lows in
    let point = IsPartitionPoint-from_clause (λ s. leb (low_of s) c.args.c) _ _ c.partition_point-count.ensures.partitioned parted (λ a r q k. search rules) in
    sym (looked_up c.args.spans.now c.args.c c.partition_point-count.result _ c.requires c.partition_point-count.ensures.bound point c.if-count-gt0.true)

pub returns-else-count-gt0 : goal.returns-else-count-gt0
returns-else-count-gt0 c =
    let none : ltb 0 c.partition_point-count.result ≡ false = not_less c.partition_point-count.result c.if-count-gt0.false in
    let parted = IsPartitionedBy-leb low_of _ c.args.c c.requires.lows in
    let point = IsPartitionPoint-from_clause (λ s. leb (low_of s) c.args.c) _ _ c.partition_point-count.ensures.partitioned parted (λ a r q k. search rules) in
    none ∙ sym (looked_past c.args.spans.now c.args.c c.partition_point-count.result point c.if-count-gt0.false)
