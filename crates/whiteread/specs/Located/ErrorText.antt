-- What an error prints.
use Rattle.std.specs.Prelude.{ℕ, List, codes}
use Rattle.whiteread.specs.declared.stream.error.Error.{Error}
use Rattle.whiteread.specs.declared.stream.error.Error.TheVariants.{TooShort, Leftovers, ParseError, IoError, NoMemory}
use Rattle.whiteread.specs.declared.stream.error.Progress.TheVariants.{Nothing, Partial}
use Rattle.whiteread.specs.declared.stream.error.IoFault.TheVariants.{ReadFault, NotUtf8, TooLong, CannotOpen}

-- Each error prints this text.
abbrev pub error_text : Error → List ℕ
error_text (TooShort Nothing) = codes "not enough input to start parsing a value"
error_text (TooShort Partial) = codes "not enough input to finish parsing a value"
error_text Leftovers = codes "excessive input provided"
error_text ParseError = codes "parse error occured"
error_text (IoError ReadFault) = codes "read fault"
error_text (IoError NotUtf8) = codes "not UTF-8"
error_text (IoError TooLong) = codes "past the limit"
error_text (IoError CannotOpen) = codes "cannot open"
error_text NoMemory = codes "no memory"
