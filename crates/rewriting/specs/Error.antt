-- The refusals of the job as those of `reformat`.
use Rattle.line_job.specs.declared.stop.Stop.{Stop}
use Rattle.line_job.specs.declared.stop.Stop.TheVariants.{Line, NotUtf8 as StopNotUtf8, TooLong as StopTooLong, ReadFault as StopReadFault, WriteFault as StopWriteFault, NoMemory as StopNoMemory}
use Rattle.header_lines.specs.declared.cause.LineCause.{LineCause}
use Rattle.header_lines.specs.declared.cause.LineCause.TheVariants.{Header as CauseHeader, SourceFormat as CauseFormat, Refused as CauseRefused, Template as CauseTemplate, NotARow as CauseRow, Render as CauseRender}
use Rattle.rewriting.specs.declared.error.ReformatError.{ReformatError}
use Rattle.rewriting.specs.declared.error.ReformatError.TheVariants.{Header, SourceFormat, Refused, Template, NotARow, Render, NotUtf8, TooLong, ReadFault, WriteFault, NoMemory}

-- Each refusal under its own name.
abbrev pub error_of : Stop LineCause → ReformatError
error_of (Line (CauseHeader line)) = Header line
error_of (Line (CauseFormat line)) = SourceFormat line
error_of (Line (CauseRefused line why)) = Refused line why
error_of (Line (CauseTemplate line why)) = Template line why
error_of (Line (CauseRow line)) = NotARow line
error_of (Line (CauseRender line fault)) = Render line fault
error_of (StopNotUtf8 line) = NotUtf8 line
error_of StopTooLong = TooLong
error_of StopReadFault = ReadFault
error_of StopWriteFault = WriteFault
error_of StopNoMemory = NoMemory
