use Rattle.std.proofs.lemmas.Result.{err_from_is_err_and}
use Rattle.whiteread.proofs.reader.Reader.next_line.Goals as goal

pub returns-in_err-start_line : goal.returns-in_err-start_line
returns-in_err-start_line g c =
    let p = err_from_is_err_and c.from_residual.result c.from_residual.ensures.1 in
    rw (p.1, p.2) (c.start_line.new.self, record { told = c.in_err-start_line.ensures; lent = tt })

pub returns : goal.returns
returns g c = (c.start_line.new.self, record { told = c.in_ok-start_line.ensures; lent = c.current_line.ensures })
