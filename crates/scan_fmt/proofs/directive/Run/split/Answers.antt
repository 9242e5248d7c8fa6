use Rattle.std.proofs.Common.{◌≡◌, Some, None, sym, ap, ◌∙◌, subst, refl}
use Rattle.std.specs.Str.{chars}
use Rattle.std.specs.List.{AllByRecursion}
use Rattle.std.proofs.lemmas.Str.{IsUtf8-past_char}
use Rattle.scan_fmt.specs.Grammar.{first}
use Rattle.scan_fmt.specs.Scanned.{Suits}
use Rattle.scan_fmt.specs.Inner.Parts.{run_of}
use Rattle.scan_fmt.proofs.Characters.{passed_none, passed_more, passed_is, run_end, each_more}
use Rattle.scan_fmt.proofs.directive.Run.split.Goals as goal

pub run-init : goal.run-init
run-init c = (c.utf8.input, passed_none (AllByRecursion (Suits (run_of c.args.self.now))) c.args.input.now tt)

pub returns-then-not-suits : goal.returns-then-not-suits
returns-then-not-suits c =
    let S = Suits (run_of c.args.self.now) in
    let front = c.before-then-not-suits in
    run_end S (chars c.args.input.now) (chars front.result.now) (chars c.run.rest.now) front.ensures.characters (passed_is (AllByRecursion S) c.args.input.now front.result.now c.run.rest.now front.ensures.whole c.run.invariant.1)
    (λ d at suits. let same : c.in-Some.c ≡ d = (let k : Some c.in-Some.c ≡ Some d = sym (ap first c.in-Some.ensures.some) ∙ at in cc) in
    let bad = c.if-not-suits.ensures.1 (subst S (sym same) suits) in cc)

pub run-preserved : goal.run-preserved
run-preserved c =
    let S = Suits (run_of c.args.self.now) in (
      IsUtf8-past_char c.run.rest.now c.in-Some.more.now c.in-Some.c c.run.invariant.0 c.in-Some.ensures.bytes,
      passed_more (AllByRecursion S) (AllByRecursion S) c.args.input.now c.run.rest.now c.in-Some.more.now c.in-Some.c c.run.invariant.0 c.in-Some.ensures.bytes (λ front each. each_more S c.in-Some.c front (c.if-not-suits.ensures.0 refl) each) c.run.invariant.1,
    )

pub returns : goal.returns
returns c =
    let S = Suits (run_of c.args.self.now) in
    let front = c.before-2 in
    run_end S (chars c.args.input.now) (chars front.result.now) (chars c.run.rest.now) front.ensures.characters (passed_is (AllByRecursion S) c.args.input.now front.result.now c.run.rest.now front.ensures.whole c.run.invariant.1)
    (λ d at suits. let k : None ≡ Some d = sym (ap first c.in_default.ensures.none) ∙ at in cc)
