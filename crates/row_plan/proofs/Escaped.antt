-- Literal text with its braces doubled, character by character.
use Rattle.std.proofs.Common.{◌≡◌, ◌≢◌, ◌≤◌, ◌+◌, ◌/◌, ◌%◌, ℕ, Bool, true, false, cond, List, [], ◌∷◌, encode_utf8, refl, arith}
use Rattle.std.specs.List.{AllByRecursion}
use Rattle.std.proofs.lemmas.Bool.Decides.{nat_tests}
use lib.Dec.{ltb}
use lib.Utf8.{encode, next}
use Rattle.row_format.specs.Planned.{escaped, escaped_byte}

-- no brace
abbrev IsPlain : ℕ → Type 0
IsPlain b = (b ≢ 123) × (b ≢ 125)

plain_byte : (b : ℕ) → IsPlain b → escaped_byte b ≡ b ∷ []
plain_byte b h = grind (arith, nat_tests)

plain_text : (bytes : List ℕ) → AllByRecursion IsPlain bytes → escaped bytes ≡ bytes
plain_text [] h = refl
plain_text (b ∷ bytes) h = rw (plain_byte b h.0, plain_text bytes h.1) refl

lead : (b n : ℕ) → 128 ≤ b → IsPlain (b + n)
lead b n h = (λ k. omega arith, λ k. omega arith)

tail : (c : ℕ) → IsPlain (next c)
tail c = lead 128 (c % 64) (omega arith)

plain_encode : (c : ℕ) → IsPlain c → AllByRecursion IsPlain (encode c)
unfolding encode
plain_encode c h =
    elim (ltb c 128) as (λ (b : Bool). AllByRecursion IsPlain (cond b (c ∷ []) (cond (ltb c 2048) ((192 + c / 64) ∷ next c ∷ []) (cond (ltb c 65536) ((224 + c / 4096) ∷ next (c / 64) ∷ next c ∷ []) ((240 + c / 262144) ∷ next (c / 4096) ∷ next (c / 64) ∷ next c ∷ []))))) [
      | true ↦ (h, tt)
      | false ↦ elim (ltb c 2048) as (λ (b : Bool). AllByRecursion IsPlain (cond b ((192 + c / 64) ∷ next c ∷ []) (cond (ltb c 65536) ((224 + c / 4096) ∷ next (c / 64) ∷ next c ∷ []) ((240 + c / 262144) ∷ next (c / 4096) ∷ next (c / 64) ∷ next c ∷ [])))) [
        | true ↦ (lead 192 (c / 64) (omega arith), (tail c, tt))
        | false ↦ elim (ltb c 65536) as (λ (b : Bool). AllByRecursion IsPlain (cond b ((224 + c / 4096) ∷ next (c / 64) ∷ next c ∷ []) ((240 + c / 262144) ∷ next (c / 4096) ∷ next (c / 64) ∷ next c ∷ []))) [
          | true ↦ (lead 224 (c / 4096) (omega arith), (tail (c / 64), (tail c, tt)))
          | false ↦ (lead 240 (c / 262144) (omega arith), (tail (c / 4096), (tail (c / 64), (tail c, tt))))
        ]
      ]
    ]

-- a character that is no brace stands for itself
pub escaped_same : (c : ℕ) → c ≢ 123 → c ≢ 125 → escaped (encode_utf8 c) ≡ encode_utf8 c
escaped_same c h k = plain_text (encode c) (plain_encode c (h, k))
