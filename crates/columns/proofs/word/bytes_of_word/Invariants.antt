use Rattle.std.proofs.Common.{◌≡◌, take}
use Rattle.std.specs.List.{AllByRecursion}
use Rattle.columns.specs.Inner.Shapes.{IsWordByte}
use Rattle.columns.proofs.word.bytes_of_word.Given as goal

-- the bytes so far end no word
abbrev pub invariant-bytes : goal.invariant-bytes
invariant-bytes l = record {
  counted : l.len ≡ l.byte-index;
  bytes : AllByRecursion (IsWordByte l.stop) (take l.len l.text);
}
