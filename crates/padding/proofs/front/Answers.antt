use Rattle.std.proofs.Common.{◌≡◌, rules, arith, ◌∙◌, ◌++◌}
use Rattle.std.specs.Prelude.{encode_utf8}
use Rattle.std.specs.Str.Iter.{chars_rest}
use Rattle.padding.proofs.FillLemmas.{passed_none, passed_more, passed_all, passed_take, passed_boundary}
use Rattle.padding.proofs.front.Goals as goal

pub characters-init : goal.characters-init
characters-init c = rw c.chars-rest.ensures.rest (passed_none c.args.text.now c.utf8.text)

pub returns-in_default : goal.returns-in_default
returns-in_default c = passed_all _ _ _ _ c.utf8.text c.characters.invariant (search rules) c.characters-test.true

pub characters-preserved : goal.characters-preserved
characters-preserved c =
    let steps : chars_rest c.characters.rest ≡ encode_utf8 c.in-Some.field-0 ++ chars_rest c.next.new.self = search rules in
    passed_more _ _ _ _ _ c.characters.invariant steps

pub split_at-requires : goal.split_at-requires
split_at-requires c = let i = c.characters.invariant in rw c.as_str.ensures (passed_boundary _ _ _ i)

pub returns : goal.returns
returns c =
    let end : c.characters.i ≡ c.args.count = omega (arith, c.characters-test.false, c.characters.auto.i-end) in
    let taken = passed_take _ _ _ c.characters.invariant in
    c.split_at.ensures.front ∙ rw (c.as_str.ensures, ← end) taken
