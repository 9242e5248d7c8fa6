use Rattle.std.proofs.Common.{◌≡◌, ◌∷◌, ◌++◌, [], List, ℕ, refl, ap, ◌∙◌, string_bytes, rules}
use Rattle.scan_fmt.specs.Slices.{slices_left}
use Rattle.plan_jobs.specs.Scan.{tab_joined}
use Rattle.plan_jobs.proofs.Tokens.{are_tokens, on_ok}
use Rattle.plan_jobs.proofs.scan.ScanLineJob.line.Goals as goal

pub returns-clause-kept : goal.returns-clause-kept
returns-clause-kept c =
    let joined : c.as_str.result.now ≡ tab_joined (slices_left c.in-Ok.tokens) = search rules in
    on_ok c.push_line.result (λ is. (
      tab_joined (slices_left c.in-Ok.tokens) ++ 10 ∷ [],
      ((slices_left c.in-Ok.tokens, are_tokens c.args.self.now.text.now c.args.line.now c.args.self.now.format c.in-Ok.tokens c.utf8.line c.requires.sound c.in-Ok.ensures.input c.in-Ok.ensures.place c.in-Ok.ensures.pieces, refl), refl),
      is ∙ ap (λ (t : List ℕ). string_bytes c.args.out.now ++ (t ++ 10 ∷ [])) joined,
    )) c.push_line.ensures.ok
