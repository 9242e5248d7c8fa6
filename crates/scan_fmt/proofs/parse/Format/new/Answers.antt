use Rattle.std.proofs.Common.{◌≡◌, ◌<◌, List, [], ◌∷◌, ◌++◌, length, map, sym, ap, subst, refl, ◌∙◌, arith, rules}
use Rattle.std.specs.Str.{chars}
use Rattle.std.proofs.lemmas.List.{map-append}
use Rattle.scan_fmt.specs.Grammar.{Directive, after_blanks}
use Rattle.scan_fmt.specs.Inner.Parts.{directive_of}
use Rattle.scan_fmt.proofs.Cutting.{spells_longer, blanks_shorter}
use Rattle.scan_fmt.proofs.Taking.{CutsOn, cuts_more, cuts_done}
use Rattle.scan_fmt.proofs.parse.Format.new.Goals as goal

pub cut-smaller : goal.cut-smaller
cut-smaller c =
    let spells = rw c.in-Some.is at c.in_ok-directive.ensures.some in
    let less : length (chars c.in-Some.more.now) < length (chars c.cut.rest.now) =
    omega (arith, spells_longer (directive_of c.in-Some.directive) (after_blanks (chars c.cut.rest.now)) (chars c.in-Some.more.now) spells, blanks_shorter (chars c.cut.rest.now)) in
    less

pub cut-preserved : goal.cut-preserved
cut-preserved c =
    let spells = rw c.in-Some.is at c.in_ok-directive.ensures.some in
    let items = c.cut.directives.items in
    let grown : c.push.new.self.items ≡ items ++ c.in-Some.directive ∷ [] = rw (c.push.ensures.items, c.if-is_err.ensures.negation) refl in
    let more = cuts_more (chars c.args.format.now) (chars c.cut.rest.now) (chars c.in-Some.more.now) (map directive_of items) (directive_of c.in-Some.directive) c.cut.invariant.1 spells in (
      search rules,
      subst (λ (ds : List Directive). CutsOn (chars c.args.format.now) (chars c.in-Some.more.now) ds) (sym (ap (map directive_of) grown ∙ map-append directive_of items (c.in-Some.directive ∷ []))) more,
    )

pub invariant_of-result : goal.invariant_of-result
invariant_of-result c = cuts_done (chars c.args.format.now) (chars c.cut.rest.now) (map directive_of c.cut.directives.items) c.cut.invariant.1 (rw c.in_default.is at c.in_ok-directive.ensures.none)
