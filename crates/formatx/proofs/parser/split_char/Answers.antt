-- What follows the bytes of the first character.
use Rattle.std.proofs.Common.{◌≡◌, ◌++◌, ◌∙◌, ap, drop, sym}
use Rattle.std.specs.Prelude.{encode_utf8}
use Rattle.std.specs.Char.{len_utf8}
use Rattle.std.proofs.Math.Seq.{drop-append_seam}
use Rattle.std.proofs.lemmas.Str.{length-encode}
use Rattle.formatx.proofs.parser.split_char.Goals as goal

pub returns-clause-rest : goal.returns-clause-rest
returns-clause-rest c =
    let first = c.in_ok-first.first in
    let split : c.args.text.now ≡ encode_utf8 first ++ c.as_str.result.now = cc (c.in_ok-first.ensures.steps.0) in
    sym (drop-append_seam (encode_utf8 first) c.as_str.result.now) ∙ ap (λ n. drop n (encode_utf8 first ++ c.as_str.result.now)) (length-encode first) ∙ ap (drop (len_utf8 first)) (sym split)
