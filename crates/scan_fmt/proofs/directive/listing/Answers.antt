use Rattle.std.proofs.Common.{◌++◌, ◌∷◌, true, sym, ap, ◌∙◌, List, ℕ}
use Rattle.std.specs.Str.{chars}
use Rattle.std.proofs.lemmas.Str.{IsUtf8-past_char}
use Rattle.scan_fmt.specs.Sets.{IsListing}
use Rattle.scan_fmt.proofs.Characters.{passed_first, passed_more, passed_is, passed_chars, listing_more, listing_none}
use Rattle.scan_fmt.proofs.directive.listing.Goals as goal

pub listed-init : goal.listed-init
listed-init c = (
  IsUtf8-past_char c.args.text.now c.in_ok-rest.rest.now c.in_ok-rest.field-0-0 c.utf8.text c.in_ok-rest.ensures.bytes,
  passed_first (IsListing true) c.args.text.now c.in_ok-rest.rest.now c.in_ok-rest.field-0-0 c.utf8.text c.in_ok-rest.ensures.bytes ((λ e. cc), tt),
)

pub returns-then-c-eq93-clause-some : goal.returns-then-c-eq93-clause-some
returns-then-c-eq93-clause-some c = (
  c.before-then-c-eq93.ensures.characters ∙ ap (λ (t : List ℕ). chars c.before-then-c-eq93.result.now ++ t) (c.in-Some.ensures.some ∙ ap (λ n. n ∷ chars c.in-Some.more.now) c.if-c-eq93.true),
  passed_is (IsListing true) c.args.text.now c.before-then-c-eq93.result.now c.listed.rest.now c.before-then-c-eq93.ensures.whole c.listed.invariant.1,
)

pub listed-preserved : goal.listed-preserved
listed-preserved c = (
  IsUtf8-past_char c.listed.rest.now c.in-Some.more.now c.in-Some.c c.listed.invariant.0 c.in-Some.ensures.bytes,
  passed_more (IsListing true) (IsListing true) c.args.text.now c.listed.rest.now c.in-Some.more.now c.in-Some.c c.listed.invariant.0 c.in-Some.ensures.bytes (λ front is. listing_more c.in-Some.c front c.if-c-eq93.false is) c.listed.invariant.1,
)

pub returns-clause-none : goal.returns-clause-none
returns-clause-none c = λ listing rest e is.
    let passed = c.listed.invariant.1 in
    listing_none (chars passed.front) listing rest passed.shape (sym (passed_chars (IsListing true) c.args.text.now c.listed.rest.now passed c.in_default.ensures.none) ∙ e) is
