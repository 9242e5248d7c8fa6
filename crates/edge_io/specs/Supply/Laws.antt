-- Proved laws of what a source gives in several reads, for proofs to cite.
use Rattle.std.proofs.Common.{◌≡◌, ◌+◌, ℕ, List, [], ◌∷◌, ◌++◌, length, Option, Some, None, refl, ap, sym, subst, arith, length-append}
use Rattle.std.specs.List.{concat}
use Rattle.std.specs.Io.KnownBytes.{Consumes}
use Rattle.std.proofs.KnownBytes.{Consumes-nil, Consumes-trans}
use Rattle.edge_io.specs.Supply.{Supply, Gave, GaveEach, AddsUp}

pub gave_none : {S : Type 0} (supply : Supply S) (s : S) → Gave supply s s []
gave_none supply s = record { bytes = Consumes-nil (supply.rest s); count = omega arith }

pub gave_more : {S : Type 0} (supply : Supply S) (old mid new : S) (got more : List ℕ) → Gave supply old mid got → Gave supply mid new more → Gave supply old new (got ++ more)
gave_more supply old mid new got more first second = record {
  bytes = Consumes-trans (supply.rest old) (supply.rest mid) (supply.rest new) got more first.bytes second.bytes;
  count = omega (arith, length-append got more, first.count, second.count);
}

gave_each : {S : Type 0} (supply : Supply S) (old new : S) (pieces : List (List ℕ)) → GaveEach supply old pieces new → Gave supply old new (concat pieces)
gave_each supply old new [] same = subst (λ s. Gave supply old s []) (sym same) (gave_none supply old)
gave_each supply old new (piece ∷ pieces) each = gave_more supply old each.0 new piece (concat pieces) each.1 (gave_each supply each.0 new pieces each.2)

-- known bytes that lose some are still known
left_of : (new : Option (List ℕ)) (bytes got : List ℕ) → Consumes (Some bytes) new got → (left : List ℕ) × (new ≡ Some left) × (bytes ≡ got ++ left)
left_of None bytes got loses = absurd loses
left_of (Some left) bytes got loses = (left, refl, loses)

lost : {S : Type 0} (supply : Supply S) (old new : S) (bytes got : List ℕ) → supply.rest old ≡ Some bytes → Gave supply old new got
    → (left : List ℕ) × (supply.rest new ≡ Some left) × (bytes ≡ got ++ left) × (supply.given new + length left ≡ supply.given old + length bytes)
lost supply old new bytes got told gave =
    let left = left_of (supply.rest new) bytes got (subst (λ (o : Option (List ℕ)). Consumes o (supply.rest new) got) told gave.bytes) in
    (left.0, left.1, left.2, omega (arith, gave.count, length-append got left.0, ap (λ (l : List ℕ). length l) left.2))

pub adds_up : {S : Type 0} (supply : Supply S) → AddsUp supply
adds_up supply = record { joined = gave_each supply; lost = lost supply }
