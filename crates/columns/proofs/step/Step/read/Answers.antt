use Rattle.std.proofs.Common.{string_bytes}
use Rattle.std.proofs.lemmas.Str.{IsUtf8-string_bytes}
use Rattle.columns.proofs.Rows.{step_read}
use Rattle.columns.proofs.step.Step.read.Goals as goal

pub returns : goal.returns
returns c =
    let further = rw c.as_bytes.ensures.value at c.in_ok-behind.ensures in
    step_read c.args.self.now.field c.args.self.now.kind (string_bytes c.args.self.now.after) c.args.self.now.take c.args.row.now c.args.text.now c.in_ok-number.rest.now c.in_ok-behind.field-0.now c.in_ok-number.number (IsUtf8-string_bytes c.args.self.now.after) c.requires.served c.requires.end c.in_ok-number.ensures further
