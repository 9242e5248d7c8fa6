-- A text may be cut where an older text ended.
use Rattle.std.proofs.Common.{◌≡◌, ◌≤◌, ◌++◌, length, take, sym, arith, ap, ◌∙◌}
use Rattle.std.specs.Prelude.{string_bytes}
use Rattle.std.proofs.Math.Seq.{take-append_seam}
use Rattle.std.proofs.lemmas.List.{length-append}
use Rattle.std.specs.Str.{IsUtf8, IsCharBoundary}
use Rattle.std.proofs.lemmas.Str.{IsUtf8-string_bytes, IsCharBoundary-from_take}
use Rattle.strfmt.proofs.template.take_back.Goals as goal

pub truncate-requires : goal.truncate-requires
truncate-requires c = λ le.
    let before = c.requires.0 in
    let more = c.requires.3.0 in
    let now : string_bytes c.args.out.now ≡ before ++ more = c.requires.3.1 in
    let front : take (length before) (string_bytes c.args.out.now) ≡ before = ap (take (length before)) now ∙ take-append_seam before more in
    let text : IsUtf8 (take (length before) (string_bytes c.args.out.now)) = rw front c.requires.2 in
    let long : length before ≤ length (string_bytes c.args.out.now) = rw now (rw length-append (omega arith)) in
    let cut : IsCharBoundary (string_bytes c.args.out.now) (length before) = IsCharBoundary-from_take _ _ (IsUtf8-string_bytes c.args.out.now) long text in
    rw (sym c.requires.1) (cut.0, λ _. cut.1)
