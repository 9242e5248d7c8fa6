use Rattle.std.proofs.Common.{◌∙◌, ℕ, slice_range, drop, ap}
use Rattle.std.specs.Str.{chars}
use Rattle.std.proofs.lemmas.Str.{chars-nil}
use Rattle.regex.specs.Strings.{regex_pattern}
use Rattle.scan_fmt.proofs.Expressions.{all_bytes, whole_span, group_span_of, group_within, token_is, some_token, some_after, none_token, none_after, no_parts}
use Rattle.scan_fmt.proofs.expression.Expression.find.Goals as goal

pub parts-requires-clause-within : goal.parts-requires-clause-within
parts-requires-clause-within c =
    let found = c.in-Some.ensures.found in
    let whole = whole_span c.args.input.now found.0 c.in-Some.captures c.get_match.result found.2 c.get_match.ensures.found in
    let group = group_span_of c.args.input.now found.0 c.in-Some.captures c.get.result found.2 c.get.ensures.found in
    group_within c.args.input.now (regex_pattern c.self.inside.regex.value) found.0 c.get_match.result c.get.result (rw (c.in-Ok.ensures.pattern, c.deref.ensures) at found.1) whole group

pub returns-in-Some-clause-token : goal.returns-in-Some-clause-token
returns-in-Some-clause-token c =
    let input = c.args.input.now in
    let found = c.in-Some.ensures.found in
    let whole = whole_span input found.0 c.in-Some.captures c.get_match.result found.2 c.get_match.ensures.found in
    let group = group_span_of input found.0 c.in-Some.captures c.get.result found.2 c.get.ensures.found in
    let at = token_is found.0 c.get_match.result c.get.result whole group in
    rw (← c.self.view_is) (some_token input (chars c.self.inside.pattern.now) c.self.inside.regex.value c.utf8.input (all_bytes input (λ k. (c.type_inv.input k).fits)) c.self.invariant found.0 (rw (c.in-Ok.ensures.pattern, c.deref.ensures) at found.1)
    c.parts.result.token.now c.parts.result.behind.now
    (c.parts.ensures.token ∙ ap (λ (s : ℕ × ℕ). slice_range input s.0 s.1) at)
    (c.parts.ensures.behind ∙ ap (λ (s : ℕ × ℕ). drop s.1 input) at))

pub returns-in-Some-clause-rest : goal.returns-in-Some-clause-rest
returns-in-Some-clause-rest c =
    let input = c.args.input.now in
    let found = c.in-Some.ensures.found in
    let whole = whole_span input found.0 c.in-Some.captures c.get_match.result found.2 c.get_match.ensures.found in
    rw (← c.self.view_is) (some_after input (chars c.self.inside.pattern.now) c.self.inside.regex.value c.utf8.input (all_bytes input (λ k. (c.type_inv.input k).fits)) c.self.invariant found.0 (rw (c.in-Ok.ensures.pattern, c.deref.ensures) at found.1)
    c.parts.result.rest.now (c.parts.ensures.rest ∙ ap (λ (s : ℕ × ℕ). drop s.1 input) whole))

pub returns-clause-token : goal.returns-clause-token
returns-clause-token c =
    let input = c.args.input.now in
    rw (← c.self.view_is, chars-nil) (none_token input (chars c.self.inside.pattern.now) c.self.inside.regex.value c.utf8.input (all_bytes input (λ k. (c.type_inv.input k).fits)) c.self.invariant (rw (c.in-Ok.ensures.pattern, c.deref.ensures) at c.in-None.ensures.found))

pub returns-clause-rest : goal.returns-clause-rest
returns-clause-rest c =
    let input = c.args.input.now in
    rw (← c.self.view_is) (none_after input (chars c.self.inside.pattern.now) c.self.inside.regex.value c.utf8.input (all_bytes input (λ k. (c.type_inv.input k).fits)) c.self.invariant (rw (c.in-Ok.ensures.pattern, c.deref.ensures) at c.in-None.ensures.found))

pub returns-clause-parts : goal.returns-clause-parts
returns-clause-parts c = no_parts c.args.input.now
