use Rattle.std.proofs.Common.{◌≡◌, ◌≤◌, ◌∙◌, ℕ, List, Option, Some, None, IfSome, slice_range, drop, sym, ap, subst, arith}
use Rattle.std.specs.Option.{unwrap_or}
use Rattle.regex.specs.declared.string.matcher.Match.{Match}
use Rattle.scan_fmt.proofs.Expressions.{parts_at}
use Rattle.scan_fmt.proofs.expression.parts.Goals as goal

ends_within : (whole : Match) (group : Option Match) → IfSome group (λ g. g.end ≤ whole.end) → (unwrap_or group whole).end ≤ whole.end
ends_within whole None h = omega arith
ends_within whole (Some g) h = h

stands_in : (input : List ℕ) (whole : Match) (group : Option Match) → whole.haystack.now ≡ input → IfSome group (λ g. g.haystack.now ≡ input) → (unwrap_or group whole).haystack.now ≡ input
stands_in input whole None e h = e
stands_in input whole (Some g) e h = h

pub returns-clause-parts : goal.returns-clause-parts
returns-clause-parts c =
    let input = c.args.input.now in
    let token = c.unwrap_or-token.result in
    let within : token.end ≤ c.args.whole.end = subst (λ (t : Match). t.end ≤ c.args.whole.end) (sym c.unwrap_or-token.ensures) (ends_within c.args.whole c.args.group c.requires.within) in
    let stands : token.haystack.now ≡ input = ap (λ (t : Match). t.haystack.now) c.unwrap_or-token.ensures ∙ stands_in input c.args.whole c.args.group c.requires.whole c.requires.group in
    parts_at input c.as_str.result.now c.range_from.result.now c.range_from-2.result.now token.start token.end c.args.whole.end token.ordered within
    (c.as_str.ensures ∙ ap (λ (t : List ℕ). slice_range t token.start token.end) stands)
    (c.range_from.ensures.value ∙ ap (λ n. drop n input) c.end.ensures)
    (c.range_from-2.ensures.value ∙ ap (λ n. drop n input) c.end-2.ensures)
