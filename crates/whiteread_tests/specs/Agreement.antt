-- What the law of readers says of two answers.
use Rattle.std.specs.Prelude.{◌≢◌, Result, Err}
use Rattle.whiteread.specs.Located.{Located, inner_answer}
use Rattle.whiteread.specs.declared.stream.error.Error.TheVariants.{NoMemory}
use Rattle.reader_laws.specs.Alike.{Likeness, AnswersAlike}

-- Unless one of them is want of memory, two answers are alike, but for the places of errors.
abbrev pub Agrees : {T : Type 0} → Likeness T → Result T Located → Result T Located → Type 0
Agrees alike one other = inner_answer one ≢ Err NoMemory → inner_answer other ≢ Err NoMemory → AnswersAlike alike (inner_answer one) (inner_answer other)
