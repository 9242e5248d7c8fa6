use Rattle.std.proofs.Common.{rules, ◌≡◌, length, string_bytes}
use Rattle.std.proofs.lemmas.Str.{IsUtf8-string_bytes}
use Rattle.strfmt.proofs.template.Template.fill.Goals as goal

pub take_back-requires : goal.take_back-requires
take_back-requires g c =
    let len : length (string_bytes c.args.out.now) ≡ c.len-len.result = search rules in
    (string_bytes c.args.out.now, len, IsUtf8-string_bytes c.args.out.now, (rw c.in-Err.is at c.fill_all.ensures).0)
