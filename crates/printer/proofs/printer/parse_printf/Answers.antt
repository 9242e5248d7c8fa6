use Rattle.std.proofs.Common.{inl, inr, refl}
use Rattle.printer.proofs.printer.parse_printf.Goals as goal

pub returns-in-Err-ParseError-clause-refused : goal.returns-in-Err-ParseError-clause-refused
returns-in-Err-ParseError-clause-refused c = elim c.in-Err-ParseError.ensures.err [ inl none ↦ (none.0, refl) | inr other ↦ absurd (cc) ]
