use Rattle.std.proofs.Common.{string_bytes, ◌∙◌, rules}
use Rattle.std.proofs.lemmas.Str.{IsUtf8-string_bytes}
use Rattle.plan_jobs.proofs.push.push_line.Goals as goal

pub end_line-requires : goal.end_line-requires
end_line-requires g c = record {
  front = string_bytes c.args.out.now;
  more = c.args.text.now;
  is = search rules;
  utf8 = IsUtf8-string_bytes c.args.out.now;
  long = c.len-before.ensures ∙ c.args.out.now.bytes.ok.0;
}
