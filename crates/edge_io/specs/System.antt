-- What the real ends count.
use Rattle.std.specs.Prelude.{ℕ}
use Rattle.edge_io.specs.declared.system.StdinSource.{StdinSource}
use Rattle.edge_io.specs.declared.system.FileSource.{FileSource}
use Rattle.edge_io.specs.declared.system.StdoutSink.{StdoutSink}
use Rattle.edge_io.specs.declared.system.StderrSink.{StderrSink}

-- how many bytes standard input has given
abbrev pub stdin_given : StdinSource → ℕ
stdin_given s = s.given

-- how often reading standard input has failed
abbrev pub stdin_faults : StdinSource → ℕ
stdin_faults s = s.faults

-- how many bytes a file has given
abbrev pub file_given : FileSource → ℕ
file_given s = s.given

-- how often reading a file has failed
abbrev pub file_faults : FileSource → ℕ
file_faults s = s.faults

-- how often writing to standard output has failed
abbrev pub stdout_faults : StdoutSink → ℕ
stdout_faults s = s.faults

-- how often writing to the error output has failed
abbrev pub stderr_faults : StderrSink → ℕ
stderr_faults s = s.faults
