-- Spans of characters, by which a set looks a character up.
use Rattle.std.specs.Prelude.{ℕ, Bool, ◌&&◌, nat_le, List}
use Rattle.std.specs.List.{list_any}
use Rattle.std.specs.List.Sorted.{IsNonDecreasingBy}
use Rattle.scan_fmt.specs.declared.set.Span.{Span}

-- the character lies between the ends of a range, both included
abbrev pub is_between : ℕ → ℕ → ℕ → Bool
is_between low high c = nat_le low c && nat_le c high

-- the character that a span begins with
abbrev pub low_of : Span → ℕ
low_of s = s.low

-- the character that a span reaches to
abbrev pub reach_of : Span → ℕ
reach_of s = s.reach

-- one of the spans has the character
abbrev pub is_covered : List Span → ℕ → Bool
is_covered spans c = list_any (λ (s : Span). is_between s.low s.reach c) spans

-- each span begins and ends at or after the one before
pub record Rises (spans : List Span) : Type 0 where
  pub lows : IsNonDecreasingBy low_of spans
  pub reaches : IsNonDecreasingBy reach_of spans
