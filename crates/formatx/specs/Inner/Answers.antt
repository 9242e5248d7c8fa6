-- How private calls answer what is defined.
use Rattle.std.specs.Prelude.{Result}
use Rattle.numerals.specs.Answer.{IsAnswerBy}
use Rattle.formatx.specs.Fault.{Fault, IsFault}
use Rattle.formatx.specs.declared.error.Error.{Error}
use Rattle.formatx.specs.declared.error.Error.TheVariants.{NoMemory}

-- the answer is the defined one, whose value counts by `view`, or there was no memory
abbrev pub Answers : {T V : Type 0} → (T → V) → Result V Fault → Result T Error → Type 0
Answers view defined result = IsAnswerBy view IsFault NoMemory defined result
