use Rattle.std.proofs.Common.{◌≡◌, ◌+◌, length, refl, subst, ap, arith, true, false}
use Rattle.row_format.specs.Plannable.{FirstAt}
use Rattle.separation.specs.Inner.Conditions.{Breaks}
use Rattle.separation.proofs.Places.{never_end, at_front, passes}
use Rattle.separation.proofs.conditions.Condition.first_broken.Goals as goal

pub returns-in_default : goal.returns-in_default
returns-in_default c =
    c.columns.invariant.never (never_end (Breaks c.args.self) c.columns.columns_left.now c.columns.kinds_left.now (c.in_default.ensures.none refl)
    (λ breaks. let bad : false ≡ true = c.columns-test.ensures.1 breaks in cc))

pub columns-preserved : goal.columns-preserved
columns-preserved c =
    let front = c.in-Some.front in
    let it = passes c.args.self c.columns.columns_left.now c.columns.kinds_left.now front.column.now front.columns.now front.kind front.kinds.now c.in-Some.ensures.columns c.in-Some.ensures.kinds
    (λ breaks. let bad : false ≡ true = c.columns-test.ensures.1 breaks in cc) c.columns.invariant.may in
    let counted = ap length c.in-Some.ensures.columns in
    record {
      counted = omega (arith, counted, c.columns.invariant.counted);
      may = it.may;
      never = λ n. c.columns.invariant.never (it.never n);
      at = λ place h. let e : place + 1 + c.columns.passed ≡ place + (c.columns.passed + 1) = omega arith in
          subst (FirstAt (Breaks c.args.self) c.args.columns.now c.args.kinds.now) e (c.columns.invariant.at (place + 1) (it.at place h));
    }

pub returns : goal.returns
returns c =
    let e : 1 + c.columns.passed ≡ c.columns.passed + 1 = omega arith in
    subst (FirstAt (Breaks c.args.self) c.args.columns.now c.args.kinds.now) e
    (c.columns.invariant.at 1 (at_front (Breaks c.args.self) c.columns.columns_left.now c.columns.kinds_left.now (c.columns-test.ensures.0 refl)))
