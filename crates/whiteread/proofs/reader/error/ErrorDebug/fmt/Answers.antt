-- What is written is the text of the fields that were opened.
use Rattle.std.proofs.Common.{refl}
use Rattle.std.proofs.Output.{has_written_of_eq}
use Rattle.whiteread.proofs.reader.error.ErrorDebug.fmt.Goals as goal

pub returns-in-Some : goal.returns-in-Some
returns-in-Some g c = rw (← c.self.view_is, c.in-Some.is, ← c.name_of-name.ensures, ← c.unwrap_or-row.ensures, ← c.rule_of_tildes-rule.ensures)
    (record { writes = λ plain ok. has_written_of_eq _ _ _ _ _ refl (c.write.ensures.writes plain ok) })
