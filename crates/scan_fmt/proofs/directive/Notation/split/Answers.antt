use Rattle.scan_fmt.specs.Scanned.{IsNumber}
use Rattle.scan_fmt.specs.Inner.Parts.{notation_of}
use Rattle.scan_fmt.proofs.Digits.{number_ascii}
use Rattle.scan_fmt.proofs.Runs.{number_cut, number_taken}
use Rattle.scan_fmt.proofs.directive.Notation.split.Goals as goal

pub split_at-requires : goal.split_at-requires
split_at-requires c =
    let notation = notation_of c.args.self in
    number_cut (IsNumber notation) c.args.limit c.args.input.now c.within.result.now c.reach.result (number_ascii notation) c.utf8.input c.within.ensures c.reach.ensures.within c.reach.ensures.longest

pub returns : goal.returns
returns c =
    let notation = notation_of c.args.self in
    number_taken (IsNumber notation) c.args.limit c.args.input.now c.within.result.now c.split_at.result.0.now c.split_at.result.1.now c.reach.result (number_ascii notation) c.utf8.input c.within.ensures c.reach.ensures.within c.reach.ensures.longest c.split_at.ensures.front c.split_at.ensures.back
