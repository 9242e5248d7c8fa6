use Rattle.whiteread.proofs.CallLemmas.{none_read}
use Rattle.whiteread.proofs.stream.containers.OptionFromStream.read.Goals as goal

pub returns-in-Err-TooShort-Nothing : goal.returns-in-Err-TooShort-Nothing
returns-in-Err-TooShort-Nothing g c =
    let arm = c.in-Err-TooShort-Nothing in
    none_read _ _ _ _ (rw (arm.field-0-is, arm.field-0-0-is) at arm.ensures)
