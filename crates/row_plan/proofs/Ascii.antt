-- What reads to a number is ASCII, so it is the same as bytes and as characters.
use Rattle.std.proofs.Common.{◌≡◌, ◌<◌, ◌≤◌, ℕ, zero, suc, Bool, true, false, cond, ◌==◌, List, [], ◌∷◌, drop, map, Option, Some, None, refl, sym, subst, ◌∙◌, arith}
use Rattle.std.specs.Char.{digit_value}
use Rattle.std.specs.List.{AllByRecursion}
use Rattle.std.specs.Str.{chars, IsUtf8, IsAscii}
use Rattle.std.specs.Str.Parse.{AllDigits, without_leading_plus, without_leading_sign}
use Rattle.std.proofs.lemmas.Bool.{eqb-true}
use Rattle.std.proofs.lemmas.Bool.Decides.{nat_tests}
use Rattle.std.proofs.lemmas.Str.{chars-IsAscii, encodes-chars, encodes-IsAscii}
use Rattle.numerals.specs.Numeral.{AllBelow}
use Rattle.values.specs.declared.kind.Kind.{Kind}
use Rattle.values.specs.declared.value.Value.{Value}
use Rattle.values.specs.Datum.{Datum, natural, integer, datum_of}
use Rattle.row_format.specs.Row.{ReadsDecimal, StandsFor}
use Rattle.row_plan.specs.Inner.Reading.{Finds}

-- ASCII by recursion
abbrev pub EachAscii : List ℕ → Type 0
EachAscii = AllByRecursion (λ c. c < 128)

ascii_at : (xs : List ℕ) → EachAscii xs → IsAscii xs
ascii_at [] h i = omega arith
ascii_at (x ∷ xs) h zero = h.0
ascii_at (x ∷ xs) h (suc i) = ascii_at xs h.1 i

same_bytes : (bytes : List ℕ) → EachAscii bytes → chars bytes ≡ bytes
same_bytes bytes h = chars-IsAscii bytes (ascii_at bytes h)

same_characters : (bytes : List ℕ) → IsUtf8 bytes → EachAscii (chars bytes) → chars bytes ≡ bytes
same_characters bytes u h = sym (encodes-IsAscii (chars bytes) (ascii_at (chars bytes) h)) ∙ encodes-chars bytes u

digit_ascii : (c : ℕ) → digit_value c < 36 → c < 128
digit_ascii c h = grind (arith, nat_tests)

digits_ascii : (b : ℕ) (xs : List ℕ) → b ≤ 36 → AllDigits b xs → EachAscii xs
digits_ascii b [] low h = tt
digits_ascii b (x ∷ xs) low h = (digit_ascii x (omega (arith, h.0)), digits_ascii b xs low h.1)

below_ascii : (b : ℕ) (xs : List ℕ) → b ≤ 36 → AllBelow b (map digit_value xs) → EachAscii xs
below_ascii b [] low h = tt
below_ascii b (x ∷ xs) low h = (digit_ascii x (omega (arith, h.0)), below_ascii b xs low h.1)

plus_ascii : (xs : List ℕ) → EachAscii (without_leading_plus xs) → EachAscii xs
plus_ascii [] h = tt
plus_ascii (x ∷ xs) h =
    elim (x == 43) as (λ (b : Bool). (x == 43) ≡ b → EachAscii (drop (cond b 1 0) (x ∷ xs)) → EachAscii (x ∷ xs)) [
      | true ↦ λ e k. (let same : x ≡ 43 = eqb-true x 43 e in omega (arith, same), k)
      | false ↦ λ e k. k
    ] refl h

sign_ascii : (xs : List ℕ) → EachAscii (without_leading_sign xs) → EachAscii xs
sign_ascii [] h = tt
sign_ascii (x ∷ xs) h =
    elim (x == 45) as (λ (b : Bool). (x == 45) ≡ b → EachAscii (cond b (drop 1 (x ∷ xs)) (without_leading_plus (x ∷ xs))) → EachAscii (x ∷ xs)) [
      | true ↦ λ e k. (let same : x ≡ 45 = eqb-true x 45 e in omega (arith, same), k)
      | false ↦ λ e k. plus_ascii (x ∷ xs) k
    ] refl h

pub decimal_ascii : (kind : Kind) (token : List ℕ) (value : Datum) → ReadsDecimal kind token value → EachAscii token
decimal_ascii kind token (natural n) h = plus_ascii token (digits_ascii 10 (without_leading_plus token) (omega arith) h.0.0.1)
decimal_ascii kind token (integer z) h = sign_ascii token (digits_ascii 10 (without_leading_sign token) (omega arith) h.0.0.1)
decimal_ascii kind token _ h = absurd h

pub based_ascii : (base : ℕ) → base ≤ 36 → (kind : Kind) (token : List ℕ) (value : Datum) → StandsFor base kind token value → EachAscii token
based_ascii base low kind token (natural n) h = below_ascii base token low h.0.1
based_ascii base low kind token (integer z) h = below_ascii base token low h.0.1
based_ascii base low kind token _ h = absurd h

-- what holds of bytes and says that they are ASCII holds of the characters
pub finds_characters : (P : List ℕ → Datum → Type 0) → ((token : List ℕ) (value : Datum) → P token value → EachAscii token) → (kind : Kind) (bytes : List ℕ) (found : Option Value) → IsUtf8 bytes → Finds (P bytes) kind found → Finds (P (chars bytes)) kind found
finds_characters P plain kind bytes None u none = λ value is so. none value is (subst (λ (t : List ℕ). P t value) (same_characters bytes u (plain (chars bytes) value so)) so)
finds_characters P plain kind bytes (Some v) u one = (one.0, one.1, subst (λ (t : List ℕ). P t (datum_of v)) (sym (same_bytes bytes (plain bytes (datum_of v) one.2))) one.2)
