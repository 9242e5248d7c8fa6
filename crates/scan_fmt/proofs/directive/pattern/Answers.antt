use Rattle.std.proofs.Common.{◌≡◌, ◌⊎◌, ◌==◌, ◌++◌, ◌∷◌, inl, inr, Bool, true, false, sym, ap, subst, ◌∙◌, List, ℕ}
use Rattle.std.specs.Str.{chars}
use Rattle.std.proofs.lemmas.Str.{IsUtf8-past_char}
use Rattle.scan_fmt.proofs.Characters.{passed_first, passed_more, passed_is, passed_chars}
use Rattle.scan_fmt.proofs.Patterns.{Begins, begins_first, begins_more, begins_closed, begins_none}
use Rattle.scan_fmt.proofs.directive.pattern.Goals as goal

slashed : (c : ℕ) (escaped : Bool) → ((c ≡ 47) × (escaped ≡ true)) ⊎ (c ≡ 47 → ⊥) → c ≡ 47 → escaped ≡ true
slashed c escaped (inl both) e = both.1
slashed c escaped (inr none) e = absurd (none e)

pub pattern-init : goal.pattern-init
pattern-init c = (
  IsUtf8-past_char c.args.text.now c.in_ok-rest.rest.now c.in_ok-rest.field-0-0 c.utf8.text c.in_ok-rest.ensures.bytes,
  passed_first (Begins false) c.args.text.now c.in_ok-rest.rest.now c.in_ok-rest.field-0-0 c.utf8.text c.in_ok-rest.ensures.bytes (begins_first c.in_ok-rest.field-0-0),
)

pub returns-then-not-escaped-clause-some : goal.returns-then-not-escaped-clause-some
returns-then-not-escaped-clause-some c =
    let closed : Begins false (chars c.before-then-not-escaped.result.now) = subst (λ b. Begins b (chars c.before-then-not-escaped.result.now)) c.if-not-escaped.true
    (passed_is (Begins c.pattern.escaped) c.args.text.now c.before-then-not-escaped.result.now c.pattern.rest.now c.before-then-not-escaped.ensures.whole c.pattern.invariant.1) in (
      c.before-then-not-escaped.ensures.characters ∙ ap (λ (t : List ℕ). chars c.before-then-not-escaped.result.now ++ t) (c.in-Some.ensures.some ∙ ap (λ n. n ∷ chars c.in-Some.more.now) c.if-c-eq47.true),
      begins_closed (chars c.before-then-not-escaped.result.now) closed,
    )

pub pattern-preserved : goal.pattern-preserved
pattern-preserved c =
    let escaped = c.pattern.escaped in
    let slash : c.in-Some.c ≡ 47 → escaped ≡ true = slashed c.in-Some.c escaped c.else-c-eq47.either in (
      IsUtf8-past_char c.pattern.rest.now c.in-Some.more.now c.in-Some.c c.pattern.invariant.0 c.in-Some.ensures.bytes,
      passed_more (Begins escaped) (Begins (c.in-Some.c == 92)) c.args.text.now c.pattern.rest.now c.in-Some.more.now c.in-Some.c c.pattern.invariant.0 c.in-Some.ensures.bytes
          (λ front is. begins_more escaped front c.in-Some.c slash is) c.pattern.invariant.1,
    )

pub returns-clause-none : goal.returns-clause-none
returns-clause-none c = λ pattern rest e is.
    let passed = c.pattern.invariant.1 in
    begins_none c.pattern.escaped (chars passed.front) pattern rest passed.shape (sym (passed_chars (Begins c.pattern.escaped) c.args.text.now c.pattern.rest.now passed c.in_default.ensures.none) ∙ e) is
