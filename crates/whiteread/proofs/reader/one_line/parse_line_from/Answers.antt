use Rattle.std.proofs.Common.{◌≡◌, Err, inl, inr, ap, subst, rules}
use Rattle.std.specs.Str.{IsUtf8}
use Rattle.whiteread.proofs.reader.one_line.parse_line_from.Goals as goal

pub returns : goal.returns
returns g c =
    let bytes : c.deref.result.now ≡ c.in-Ok.bytes.items = c.deref.ensures.value in
    let refused : ¬ (IsUtf8 c.deref.result.now) = search (rules, c.in-Err-from_utf8.ensures.cases) in
    inl (c.in-Ok.bytes.items, c.in-Ok.ensures.0, c.in-Ok.ensures.1, inr (subst (λ l. ¬ (IsUtf8 l)) bytes refused, ap Err c.without_place-in-Err-from_utf8.ensures))
