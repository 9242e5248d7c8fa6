-- What the words decide over good input.
use Rattle.std.proofs.Common.{◌≡◌, ◌≢◌, ℕ, Bool, List, Option, Some, Result, Ok, Err, refl, subst}
use Rattle.edge_io.specs.Supply.{Supply}
use Rattle.whiteread.specs.Words.{Words}
use Rattle.whiteread.specs.Reading.{Reading, ReadsTold}
use Rattle.whiteread.specs.ReaderState.ReaderWords.{reader_left}
use Rattle.whiteread.specs.declared.stream.error.Error.{Error}
use Rattle.whiteread.specs.declared.stream.error.Error.TheVariants.{TooShort, Leftovers, ParseError, IoError, NoMemory}
use Rattle.whiteread.specs.declared.stream.error.IoFault.{IoFault}
use Rattle.whiteread.specs.Located.{Located, inner_answer}
use Rattle.reader_laws.specs.Good.{ContinuesGood}
use Rattle.reader_laws.proofs.GoodLemmas.{no_fault, told_inner}

-- The reading relates the words and the answer, if no fault and no want of memory is answered.
related : {T : Type 0} (reading : Reading T) (words : Words) (answer : Result T Error) (new : Option Words) → (¬ ((fault : IoFault) × (answer ≡ Err (IoError fault)))) → answer ≢ Err NoMemory
    → ReadsTold reading.reads (Some words) answer new → (rest : Words) × reading.reads words answer rest
related reading words (Ok value) new plain room told = (told.0, told.2)
related reading words (Err (TooShort progress)) new plain room told = (told.0, told.2)
related reading words (Err Leftovers) new plain room told = absurd told
related reading words (Err ParseError) new plain room told = (told.0, told.2)
related reading words (Err (IoError fault)) new plain room told = absurd (plain (fault, refl))
related reading words (Err NoMemory) new plain room told = absurd (room refl)

pub good_related : {B T : Type 0} (supply : Supply B) (reading : Reading T) (cheap : Bool) (words : Words) (result : Result T Located)
    → ContinuesGood supply reading cheap words result → inner_answer result ≢ Err NoMemory → (left : Words) × reading.reads words (inner_answer result) left
good_related {B} {T} supply reading cheap words result reads room =
    let call = reads.told in
    let same : call.answer ≡ inner_answer result = told_inner cheap call.answer _ _ _ result call.told room in
    let told : ReadsTold reading.reads (Some words) call.answer (reader_left supply reads.new) =
    subst (λ (o : Option Words). ReadsTold reading.reads o call.answer (reader_left supply reads.new)) reads.left call.called.words in
    related reading words (inner_answer result) (reader_left supply reads.new) (λ io. no_fault supply reading cheap words result io.0 reads io.1) room
    (subst (λ (a : Result T Error). ReadsTold reading.reads (Some words) a (reader_left supply reads.new)) same told)
