-- Calls of `next`, one after another.
use Rattle.std.proofs.Common.{◌≡◌, ◌≤◌, ℕ, List, [], length, Option, Some, None, Ok, refl, ap, arith}
use Rattle.whiteread.specs.Words.{Words, words}
use Rattle.whiteread.specs.Stream.{Stream, Answer, NextCall, TakesFirst, told_stream}
use Rattle.whiteread.specs.Reading.{Reached}

-- a step of a stream whose words are told, by which its first word is taken, is a call of `next`
pub told_call : {S : Type 0} (left : S → Words) (step : S → Answer → S → Type 0) (old : S) (found : Option (List ℕ)) (new : S)
    → step old (Ok found) new → TakesFirst (Some (left old)) (Ok found) (Some (left new)) → NextCall (told_stream left step) old (Ok found) new
told_call left step old None new by takes = record {
  words = takes;
  bound = let e : left new ≡ [] = let some = takes.1 in cc in omega (arith, ap (λ (w : Words). length w) e);
  end = let some = takes.1 in cc;
  counts = refl;
  step = by;
  memory = tt;
}
told_call left step old (Some word) new by takes = record {
  words = takes;
  bound = let e : left new ≡ takes.0 = let some = takes.2 in cc in omega (arith, ap (λ (w : Words). length w) e, ap (λ (w : Words). length w) takes.1);
  end = tt;
  counts = refl;
  step = by;
  memory = tt;
}

abbrev pub SkipsTold : Option Words → Option Words → Type 0
SkipsTold None new = Unit {0}
SkipsTold (Some words) new = (rest : Words) × (new ≡ Some rest)

-- words were passed
pub record Skips {S : Type 0} (stream : Stream S) (old new : S) : Type 0 where
  pub words : SkipsTold (stream.left old) (stream.left new)
  pub bound : stream.bound new ≤ stream.bound old
  pub counts : stream.faults new ≡ stream.faults old
  pub reached : Reached stream.step old new
