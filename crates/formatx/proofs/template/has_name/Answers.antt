-- One name more.
use Rattle.std.proofs.Common.{◌≡◌, ◌<◌, length, refl, sym, arith}
use Rattle.std.proofs.lemmas.Slice.Eq.{bytes_eq-Decides}
use Rattle.std.specs.Prelude.{Contains}
use Rattle.formatx.specs.Inner.Parts.{names_in}
use Rattle.formatx.specs.declared.ast.Segment.TheVariants.{Literal}
use Rattle.formatx.proofs.TemplateLemmas.{pass_unnamed, pass_other, found_name}
use Rattle.formatx.proofs.template.has_name.Goals as goal
use Rattle.formatx.proofs.template.has_name.Goals.{in-Some+else-eq, in_default}

pub returns-then-eq : goal.returns-then-eq
returns-then-eq c =
    let inside : c.segments.segment-index < length c.args.segments.now = omega arith in
    let equal : c.in-Some.found.now ≡ c.args.name.now = (bytes_eq-Decides c.in-Some.found.now c.args.name.now).0 (sym c.if-eq.ensures) in
    let found = found_name c.args.source.now c.args.segments.now c.segments.segment-index (Literal (record { start = 0; end = 0 })) c.args.name.now c.in-Some.found.now (Contains (names_in c.args.source.now c.args.segments.now) c.args.name.now) inside c.in-Some.ensures equal c.segments.invariant in
    (λ _. found, λ _. refl)

pub segments-preserved : goal.segments-preserved
segments-preserved c =
    let inside : c.segments.segment-index < length c.args.segments.now = omega arith in
    let first = Literal (record { start = 0; end = 0 }) in
    elim c.match-segment_name.branch [
      | in-Some+else-eq w ↦
          let other : ¬ (w.in-Some.found.now ≡ c.args.name.now) = λ same. (let yes = (bytes_eq-Decides w.in-Some.found.now c.args.name.now).1 same in let no : ⊥ = cc in no) in
          pass_other c.args.source.now c.args.segments.now c.segments.segment-index first c.args.name.now w.in-Some.found.now _ inside w.in-Some.ensures other c.segments.invariant
      | in_default w ↦
          pass_unnamed c.args.source.now c.args.segments.now c.segments.segment-index first c.args.name.now _ inside w.in_default.ensures c.segments.invariant
    ]
