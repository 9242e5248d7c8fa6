use Rattle.std.proofs.Common.{string_bytes}
use Rattle.printer.proofs.AppendLemmas.{formatx_text, formatx_fault}
use Rattle.printer.proofs.append.append_formatx.Goals as goal

pub returns-in-Ok : goal.returns-in-Ok
returns-in-Ok c = formatx_text c.args.template.now c.args.names.now c.args.values.now c.positions.result.now c.positions.ensures (string_bytes c.args.out.now) (string_bytes c.render_into.new.out) c.in-Ok.ensures.ok

pub returns-in-Err : goal.returns-in-Err
returns-in-Err c = formatx_fault c.args.template.now c.args.names.now c.args.values.now c.positions.result.now c.positions.ensures (string_bytes c.args.out.now) (string_bytes c.render_into.new.out) c.in-Err.error c.formatx_told.result c.in-Err.ensures.err c.in-Err.ensures.unchanged c.formatx_told.ensures
