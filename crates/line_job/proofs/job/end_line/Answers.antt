use Rattle.std.proofs.Common.{◌≡◌, List, ℕ, string_bytes, IsCharBoundary, sym, subst, rules}
use Rattle.std.proofs.lemmas.Str.{IsUtf8-string_bytes}
use Rattle.line_job.proofs.GrownLemmas.{boundary_before}
use Rattle.line_job.proofs.job.end_line.Goals as goal

pub truncate-requires : goal.truncate-requires
truncate-requires g c = λ le.
    let same : string_bytes c.push_str.new.self ≡ string_bytes c.args.out.now = search rules in
    let boundary : IsCharBoundary (string_bytes c.push_str.new.self) c.args.before =
    subst (λ (t : List ℕ). IsCharBoundary t c.args.before) (sym same) (boundary_before c.args.before (string_bytes c.args.out.now) (IsUtf8-string_bytes c.args.out.now) c.requires) in
    (boundary.0, λ _. boundary.1)
