-- The mark is the last place where the text may be cut.
use Rattle.std.proofs.Common.{◌≡◌, ◌≤◌, ◌∙◌, sym, ap, length, rules}
use Rattle.std.specs.Prelude.{min}
use Rattle.std.specs.Fmt.Cut.{floor_char_boundary}
use Rattle.whiteread.specs.Located.Rendered.{last_of}
use Rattle.whiteread.proofs.RenderedLemmas.{floor_is, last_of-le}
use Rattle.whiteread.proofs.reader.error.mark_at.Goals as goal

pub returns-clause-place : goal.returns-clause-place
returns-clause-place c =
    let text = c.args.text.now in
    let reached : c.min.result ≡ min c.args.passed (length text) = search rules in
    let place : c.last_before.result ≡ last_of c.args.error.now (min c.args.passed (length text)) = c.last_before.ensures ∙ ap (last_of c.args.error.now) reached in
    let within : c.last_before.result ≤ length text = search (rules, last_of-le) in
    let f = c.floor_char_boundary.ensures in
    sym (floor_is text c.last_before.result c.floor_char_boundary.result within f.bound f.boundary f.nearest) ∙ ap (floor_char_boundary text) place
