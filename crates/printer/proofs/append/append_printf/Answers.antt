use Rattle.std.proofs.Common.{string_bytes}
use Rattle.printer.proofs.AppendLemmas.{printf_refusal, printf_text, printf_fault}
use Rattle.printer.proofs.append.append_printf.Goals as goal

pub printf_told-requires : goal.printf_told-requires
printf_told-requires c = printf_refusal c.args.elements.now c.args.values.now (string_bytes c.args.out.now) (string_bytes c.vsprintfp_into.new.out) c.in-Err.error c.in-Err.ensures

pub returns-in-Ok : goal.returns-in-Ok
returns-in-Ok c = printf_text c.args.elements.now c.args.values.now (string_bytes c.args.out.now) (string_bytes c.vsprintfp_into.new.out) tt c.in-Ok.ensures

pub returns-in-Err : goal.returns-in-Err
returns-in-Err c = printf_fault c.args.elements.now c.args.values.now (string_bytes c.args.out.now) (string_bytes c.vsprintfp_into.new.out) c.in-Err.error c.printf_told.result c.in-Err.ensures c.printf_told.ensures
