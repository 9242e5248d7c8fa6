use Rattle.std.proofs.Common.{◌≡◌, ◌++◌, ◌∷◌, [], ℕ, List, arith, subst, sym, inl, refl, append_assoc, rules}
use Rattle.std.proofs.lemmas.Str.Pattern.{split_parts}
use Rattle.sprintf.specs.declared.parser.FormatElement.{FormatElement}
use Rattle.sprintf.specs.Grammar.{IsFormat}
use Rattle.sprintf.specs.Inner.Reading.{verbatim}
use Rattle.sprintf.proofs.Formats.{step_sound, step_complete, step_fails, end_sound, plain_at, shorter}
use Rattle.sprintf.proofs.parser.parse_format_string.Goals as goal

-- what was read, by the elements so far
so_far : (fmt : List ℕ) (old mid new more run : List FormatElement) (f : FormatElement) → mid ≡ old ++ run → new ≡ mid ++ f ∷ [] → IsFormat fmt (old ++ (run ++ f ∷ more)) → IsFormat fmt (new ++ more)
so_far fmt old mid new more run f e h k = let same : new ++ more ≡ old ++ (run ++ f ∷ more) = rw (h, e) (simp append_assoc) in subst (λ es. IsFormat fmt es) (sym same) k

pub returns-in_default-take_conversion_specifier-clause-err : goal.returns-in_default-take_conversion_specifier-clause-err
returns-in_default-take_conversion_specifier-clause-err c =
    let parts = rw c.in-Some.is at (split_parts 37 c.loop-text.rest.now c.split_once.result c.split_once.ensures.cases (omega arith)) in
    let plain = plain_at c.in-Some.text.now parts.1 in
    let fails = step_fails c.loop-text.rest.now c.in-Some.text.now c.in-Some.field.now parts.0 plain (c.in_default-take_conversion_specifier.ensures.none refl) in
    inl (λ es k. let rest = c.loop-text.invariant.2 es k in fails rest.0 rest.1, refl)

pub loop-text-smaller : goal.loop-text-smaller
loop-text-smaller c =
    let parts = rw c.in-Some.is at (split_parts 37 c.loop-text.rest.now c.split_once.result c.split_once.ensures.cases (omega arith)) in
    shorter c.loop-text.rest.now c.in-Some.text.now c.in-Some.field.now _ _ parts.0 c.in-Some-take_conversion_specifier.ensures.some

pub loop-text-preserved : goal.loop-text-preserved
loop-text-preserved c =
    let parts = rw c.in-Some.is at (split_parts 37 c.loop-text.rest.now c.split_once.result c.split_once.ensures.cases (omega arith)) in
    let plain = plain_at c.in-Some.text.now parts.1 in
    let sound = step_sound c.loop-text.rest.now c.in-Some.text c.in-Some.field.now _ _ parts.0 plain c.in-Some-take_conversion_specifier.ensures.some in
    let complete = step_complete c.loop-text.rest.now c.in-Some.text.now c.in-Some.field.now _ _ parts.0 plain c.in-Some-take_conversion_specifier.ensures.some in (
      search rules,
      λ more k. so_far c.args.fmt.now c.loop-text.elements.items _ _ more (verbatim c.in-Some.text) _ c.in_ok-push_text.ensures.ok c.in_ok-push_element.ensures.ok (c.loop-text.invariant.1 _ (sound more k)),
      λ es k. let rest = c.loop-text.invariant.2 es k in complete rest.0 rest.1,
    )

pub returns-clause-ok : goal.returns-clause-ok
returns-clause-ok c =
    let plain = plain_at c.loop-text.rest.now (rw c.in_default.is at (split_parts 37 c.loop-text.rest.now c.split_once.result c.split_once.ensures.cases (omega arith))) in
    subst (λ es. IsFormat c.args.fmt.now es) (sym c.in_ok-push_text-2.ensures.ok) (c.loop-text.invariant.1 (verbatim c.loop-text.rest) (end_sound c.loop-text.rest plain))
