use Rattle.std.proofs.Common.{◌≡◌, ◌+◌, ◌<◌, ◌≤◌, ℕ, List, ◌∷◌, length, map, drop, get_or, sym, subst, arith, rules, add-one, drop-cons}
use Rattle.std.specs.Str.{IsUtf8}
use Rattle.std.proofs.lemmas.Bool.{eqb-true, eqb-false}
use Rattle.std.proofs.lemmas.List.{drop_all}
use Rattle.std.proofs.lemmas.Result.{IfOk-weaker}
use Rattle.scan_fmt.specs.declared.directive.Directive.{Directive as DirectivePart}
use Rattle.scan_fmt.specs.declared.slices.Piece.{Piece}
use Rattle.scan_fmt.specs.Inner.Parts.{directive_of, TakesPieces}
use Rattle.scan_fmt.proofs.Characters.{empty_chars, some_chars}
use Rattle.scan_fmt.proofs.Taking.{Placed, here_front, token_front, placed_start, placed_passed, placed_taken, placed_end, placed_ended, placed_refused}
use Rattle.scan_fmt.proofs.slices.take_pieces.Goals as goal
use Rattle.scan_fmt.proofs.slices.take_pieces.Goals.{in-Passed, in-Taken+in_ok-push_piece-in-Taken}

-- the directives from a place on: the one that stands there, and the later ones
at_place : (ds : List DirectivePart) (d : DirectivePart) (i : ℕ) (input rest : List ℕ) (pieces : List Piece) → d ≡ get_or ds i d → i < length ds → Placed (map directive_of ds) input (map directive_of (drop i ds)) rest pieces
    → Placed (map directive_of ds) input (directive_of d ∷ map directive_of (drop (i + 1) ds)) rest pieces
at_place ds d i input rest pieces is h so =
    subst (λ (e : DirectivePart). Placed (map directive_of ds) input (directive_of e ∷ map directive_of (drop (i + 1) ds)) rest pieces) (sym is)
    (rw add-one (subst (λ (l : List DirectivePart). Placed (map directive_of ds) input (map directive_of l) rest pieces) (drop-cons ds i d h) so))

pub directives-init : goal.directives-init
directives-init c = rw c.new-pieces.ensures.items (c.utf8.input, placed_start (map directive_of c.args.directives.now) c.args.input.now)

pub returns-then-is_empty : goal.returns-then-is_empty
returns-then-is_empty c =
    let ds = c.args.directives.now in
    let i = c.directives.directive-index in
    let d = c.directive-item.result in
    placed_ended (map directive_of ds) (map directive_of (drop (i + 1) ds)) (directive_of d) c.args.input.now c.directives.rest.now c.skip_blanks-here.result.now c.directives.pieces.items
    (at_place ds d i c.args.input.now c.directives.rest.now c.directives.pieces.items c.directive-item.is c.directives-test.true c.directives.invariant.1) c.skip_blanks-here.ensures (empty_chars c.skip_blanks-here.result.now (eqb-true _ 0 (sym c.if-is_empty.ensures)))

pub mismatch-requires : goal.mismatch-requires
mismatch-requires c =
    let front = here_front c.args.input.now c.directives.invariant.1.front c.directives.rest.now c.skip_blanks-here.result.now c.directives.invariant.1.whole c.directives.invariant.0 c.skip_blanks-here.utf8 c.skip_blanks-here.ensures in
    (front.front, front.whole)

pub returns-in-Mismatch : goal.returns-in-Mismatch
returns-in-Mismatch c =
    let ds = c.args.directives.now in
    let i = c.directives.directive-index in
    let d = c.directive-item.result in
    let so = at_place ds d i c.args.input.now c.directives.rest.now c.directives.pieces.items c.directive-item.is c.directives-test.true c.directives.invariant.1 in
    let some = some_chars c.skip_blanks-here.result.now c.skip_blanks-here.utf8 (eqb-false _ 0 (sym c.if-is_empty.ensures)) in
    let refuses = rw c.in-Mismatch.is at c.in_ok-pass.ensures.passes in
    IfOk-weaker c.mismatch.result _ (λ t. TakesPieces (map directive_of ds) c.args.input.now t.items)
    (λ t is. subst (TakesPieces (map directive_of ds) c.args.input.now) (sym is.1)
    (placed_refused (map directive_of ds) (map directive_of (drop (i + 1) ds)) (directive_of d) c.args.input.now c.directives.rest.now c.skip_blanks-here.result.now c.directives.pieces.items is.0 so c.skip_blanks-here.ensures some refuses is.2))
    c.mismatch.ensures

pub piece_of-piece-requires : goal.piece_of-piece-requires
piece_of-piece-requires c =
    let lies = rw c.in-Taken.is at c.in_ok-pass.ensures.lies in
    let here = here_front c.args.input.now c.directives.invariant.1.front c.directives.rest.now c.skip_blanks-here.result.now c.directives.invariant.1.whole c.directives.invariant.0 c.skip_blanks-here.utf8 c.skip_blanks-here.ensures in
    let front = token_front c.args.input.now here.front c.skip_blanks-here.result.now c.in-Taken.token.now c.in-Taken.behind.now c.in-Taken.left.now here.whole lies in
    (front.front, front.whole)

pub directives-preserved : goal.directives-preserved
directives-preserved c =
    let ds = c.args.directives.now in
    let i = c.directives.directive-index in
    let d = c.directive-item.result in
    let input = c.args.input.now in
    let rest = c.directives.rest.now in
    let here = c.skip_blanks-here.result.now in
    let before = c.directives.pieces.items in
    let so = at_place ds d i input rest before c.directive-item.is c.directives-test.true c.directives.invariant.1 in
    let some = some_chars here c.skip_blanks-here.utf8 (eqb-false _ 0 (sym c.if-is_empty.ensures)) in
    elim c.match-branch-2.branch [
      | in-Passed w ↦ rw (w.rest-is, w.pieces-is) (
          let left : IsUtf8 w.in-Passed.left.now = search rules in
          let passes = rw w.in-Passed.is at c.in_ok-pass.ensures.passes in
          let lies = rw w.in-Passed.is at c.in_ok-pass.ensures.lies in
          (left, placed_passed (map directive_of ds) (map directive_of (drop (i + 1) ds)) (directive_of d) input rest here w.in-Passed.left.now before so c.directives.invariant.0 c.skip_blanks-here.utf8 c.skip_blanks-here.ensures some passes lies)
          )
      | in-Taken+in_ok-push_piece-in-Taken w ↦ rw (w.rest-is, w.pieces-is) (
          let left : IsUtf8 w.in-Taken.left.now = search rules in
          let passes = rw w.in-Taken.is at c.in_ok-pass.ensures.passes in
          let lies = rw w.in-Taken.is at c.in_ok-pass.ensures.lies in
          let more = placed_taken (map directive_of ds) (map directive_of (drop (i + 1) ds)) (directive_of d) input rest here w.in-Taken.token.now w.in-Taken.behind.now w.in-Taken.left.now before w.piece_of-piece.result so c.directives.invariant.0 c.skip_blanks-here.utf8
          c.skip_blanks-here.ensures some passes lies w.piece_of-piece.ensures.piece w.piece_of-piece.ensures.starts w.piece_of-piece.ensures.ends in
          (left, subst (λ (ps : List Piece). Placed (map directive_of ds) input (map directive_of (drop (i + 1) ds)) w.in-Taken.left.now ps) (sym w.in_ok-push_piece-in-Taken.ensures) more)
          )
    ]

pub returns : goal.returns
returns c =
    let ds = c.args.directives.now in
    let i = c.directives.directive-index in
    let past : length ds ≤ i = omega arith in
    placed_end (map directive_of ds) c.args.input.now c.directives.rest.now c.directives.pieces.items
    (subst (λ (l : List DirectivePart). Placed (map directive_of ds) c.args.input.now (map directive_of l) c.directives.rest.now c.directives.pieces.items) (drop_all i ds past) c.directives.invariant.1)
