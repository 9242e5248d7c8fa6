use Rattle.std.proofs.Common.{◌≡◌, ◌++◌, [], ◌∷◌, Some, None, ap, sym, ◌∙◌, arith}
use Rattle.std.proofs.lemmas.Str.Pattern.{strip_suffix_char}
use Rattle.whiteread.specs.Lines.{without_feed}
use Rattle.line_job.proofs.LineLemmas.{without_whole, without_none}
use Rattle.line_job.proofs.reading.text_of.Goals as goal

pub returns-in-Some : goal.returns-in-Some
returns-in-Some c =
    let cut : c.args.line.now ≡ c.in-Some.text.now ++ 10 ∷ [] = strip_suffix_char 10 c.args.line.now (Some c.in-Some.text) c.in-Some.ensures.cases (omega arith) in
    sym (ap without_feed cut ∙ without_whole c.in-Some.text.now)

pub returns-in-None : goal.returns-in-None
returns-in-None c = sym (without_none c.args.line.now (strip_suffix_char 10 c.args.line.now None c.in-None.ensures.cases (omega arith)))
