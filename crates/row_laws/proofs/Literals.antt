-- Literal text with its braces doubled: what its characters are, and that they are UTF-8.
use Rattle.std.proofs.Common.{◌≡◌, ◌≢◌, ◌<◌, ◌≤◌, ◌+◌, ◌/◌, ℕ, Bool, true, false, cond, List, [], ◌∷◌, ◌++◌, Some, sym, ap, subst, refl, inl, inr, ◌∙◌, arith}
use Rattle.std.specs.Prelude.{nat_lt}
use Rattle.std.specs.Str.{chars, IsUtf8}
use Rattle.std.proofs.Math.Utf8.{encode, encodes, next, scalar, scalars}
use Rattle.std.proofs.lemmas.Bool.{cases_eq, ne_eqb, ltb-false, ltb-true, and_parts}
use Rattle.std.proofs.lemmas.Grind.{flat_map-append}
use Rattle.std.proofs.lemmas.List.{append-nil}
use Rattle.std.proofs.lemmas.Str.{chars-encodes, encodes-append, encode_ascii, encodes-chars, scalars-chars}
use Rattle.scan_fmt.specs.Grammar.{first, is_blank, after_blanks, Exactly, Spells}
use Rattle.row_format.specs.Planned.{escaped_byte, escaped}

-- A character and what it is escaped to.
pub data Escapes (c : ℕ) : Type 0 where
  opens : c ≡ 123 → Escapes c
  closes : c ≡ 125 → Escapes c
  plain : c ≢ 123 → c ≢ 125 → escaped_byte c ≡ c ∷ [] → Escapes c

pub escapes : (c : ℕ) → Escapes c
escapes c = elim (cases_eq c 123) [ inl e ↦ opens e | inr n ↦ elim (cases_eq c 125) [ inl e ↦ closes e | inr k ↦ plain n k (rw (ne_eqb c 123 n, ne_eqb c 125 k) refl) ] ]

high : (b : ℕ) → 128 ≤ b → escaped_byte b ≡ b ∷ []
high b h = rw (ne_eqb b 123 (λ e. omega arith), ne_eqb b 125 (λ e. omega arith)) refl

high_two : (a b : ℕ) → 128 ≤ a → 128 ≤ b → escaped (a ∷ b ∷ []) ≡ a ∷ b ∷ []
high_two a b h k = rw (high a h, high b k) refl

high_three : (a b c : ℕ) → 128 ≤ a → 128 ≤ b → 128 ≤ c → escaped (a ∷ b ∷ c ∷ []) ≡ a ∷ b ∷ c ∷ []
high_three a b c h k l = rw (high a h, high b k, high c l) refl

high_four : (a b c d : ℕ) → 128 ≤ a → 128 ≤ b → 128 ≤ c → 128 ≤ d → escaped (a ∷ b ∷ c ∷ d ∷ []) ≡ a ∷ b ∷ c ∷ d ∷ []
high_four a b c d h k l m = rw (high a h, high b k, high c l, high d m) refl

-- No byte of a character beyond ASCII is a brace.
beyond_by : (x y : Bool) (c : ℕ) → let some = cond x ((192 + c / 64) ∷ next c ∷ []) (cond y ((224 + c / 4096) ∷ next (c / 64) ∷ next c ∷ []) ((240 + c / 262144) ∷ next (c / 4096) ∷ next (c / 64) ∷ next c ∷ [])) in escaped some ≡ some
beyond_by true y c = high_two (192 + c / 64) (next c) (omega arith) (omega arith)
beyond_by false true c = high_three (224 + c / 4096) (next (c / 64)) (next c) (omega arith) (omega arith) (omega arith)
beyond_by false false c = high_four (240 + c / 262144) (next (c / 4096)) (next (c / 64)) (next c) (omega arith) (omega arith) (omega arith) (omega arith)

beyond : (c : ℕ) → nat_lt c 128 ≡ false → escaped (encode c) ≡ encode c
unfolding encode
beyond c h = rw h (beyond_by (nat_lt c 2048) (nat_lt c 65536) c)

-- A brace and its double are ASCII.
ascii : (c : ℕ) → c < 128 → encodes (escaped_byte c) ≡ escaped_byte c
ascii c h = by_case (escapes c) where
  by_case : Escapes c → encodes (escaped_byte c) ≡ escaped_byte c
  by_case (opens e) = let P : ℕ → Type 0 = λ x. encodes (escaped_byte x) ≡ escaped_byte x in subst P (sym e) (rw (encode_ascii 123 (omega arith)) refl)
  by_case (closes e) = let P : ℕ → Type 0 = λ x. encodes (escaped_byte x) ≡ escaped_byte x in subst P (sym e) (rw (encode_ascii 125 (omega arith)) refl)
  by_case (plain n k e) = rw (e, encode_ascii c h) refl

escaped_encode : (c : ℕ) → escaped (encode c) ≡ encodes (escaped_byte c)
escaped_encode c = by_test (nat_lt c 128) refl where
  by_test : (b : Bool) → nat_lt c 128 ≡ b → escaped (encode c) ≡ encodes (escaped_byte c)
  by_test true h = let low : c < 128 = ltb-true c 128 h in rw (encode_ascii c low) (append-nil (escaped_byte c) ∙ sym (ascii c low))
  by_test false h = let same : escaped_byte c ≡ c ∷ [] = high c (ltb-false c 128 h) in rw same (beyond c h ∙ sym (append-nil (encode c)))

escaped_encodes : (cs : List ℕ) → escaped (encodes cs) ≡ encodes (escaped cs)
escaped_encodes [] = refl
escaped_encodes (c ∷ cs) =
    flat_map-append escaped_byte (encode c) (encodes cs) ∙ ap (λ (t : List ℕ). t ++ escaped (encodes cs)) (escaped_encode c)
    ∙ ap (λ (t : List ℕ). encodes (escaped_byte c) ++ t) (escaped_encodes cs) ∙ sym (encodes-append (escaped_byte c) (escaped cs))

scalars_append : (xs ys : List ℕ) → scalars xs ≡ true → scalars ys ≡ true → scalars (xs ++ ys) ≡ true
scalars_append [] ys h k = k
scalars_append (x ∷ xs) ys h k =
    let both = and_parts (scalar x) (scalars xs) h in
    rw (both.0, scalars_append xs ys both.1 k) refl

scalars_byte : (c : ℕ) → scalar c ≡ true → scalars (escaped_byte c) ≡ true
scalars_byte c h = by_case (escapes c) where
  by_case : Escapes c → scalars (escaped_byte c) ≡ true
  by_case (opens e) = let P : ℕ → Type 0 = λ x. scalars (escaped_byte x) ≡ true in subst P (sym e) refl
  by_case (closes e) = let P : ℕ → Type 0 = λ x. scalars (escaped_byte x) ≡ true in subst P (sym e) refl
  by_case (plain n k e) = rw (e, h) refl

scalars_escaped : (cs : List ℕ) → scalars cs ≡ true → scalars (escaped cs) ≡ true
scalars_escaped [] h = refl
scalars_escaped (c ∷ cs) h =
    let both = and_parts (scalar c) (scalars cs) h in
    scalars_append (escaped_byte c) (escaped cs) (scalars_byte c both.0) (scalars_escaped cs both.1)

-- The characters of an escaped text are its characters, escaped.
pub chars_escaped : (text : List ℕ) → IsUtf8 text → (chars (escaped text) ≡ escaped (chars text)) × IsUtf8 (escaped text)
chars_escaped text utf8 =
    let all : scalars (escaped (chars text)) ≡ true = scalars_escaped (chars text) (scalars-chars text utf8) in
    let spelt : escaped text ≡ encodes (escaped (chars text)) = ap escaped (sym (encodes-chars text utf8)) ∙ escaped_encodes (chars text) in
    (ap chars spelt ∙ chars-encodes (escaped (chars text)) all, (escaped (chars text), (all, sym spelt)))

-- An escaped character begins with the character, and spells it.
pub first_escaped : (c : ℕ) (rest : List ℕ) → first (escaped_byte c ++ rest) ≡ Some c
first_escaped c rest = by_case (escapes c) where
  by_case : Escapes c → first (escaped_byte c ++ rest) ≡ Some c
  by_case (opens e) = let P : ℕ → Type 0 = λ x. first (escaped_byte x ++ rest) ≡ Some x in subst P (sym e) refl
  by_case (closes e) = let P : ℕ → Type 0 = λ x. first (escaped_byte x ++ rest) ≡ Some x in subst P (sym e) refl
  by_case (plain n k e) = ap (λ (t : List ℕ). first (t ++ rest)) e

pub blank_escaped : (c : ℕ) → is_blank c ≡ true → escaped_byte c ≡ c ∷ []
blank_escaped c h = by_case (escapes c) where
  by_case : Escapes c → escaped_byte c ≡ c ∷ []
  by_case (opens e) = absurd (let bad : true ≡ false = sym h ∙ ap is_blank e in cc)
  by_case (closes e) = absurd (let bad : true ≡ false = sym h ∙ ap is_blank e in cc)
  by_case (plain n k e) = e

pub solid_escaped : (c : ℕ) (rest : List ℕ) → is_blank c ≡ false → after_blanks (escaped_byte c ++ rest) ≡ escaped_byte c ++ rest
solid_escaped c rest h = by_case (escapes c) where
  by_case : Escapes c → after_blanks (escaped_byte c ++ rest) ≡ escaped_byte c ++ rest
  by_case (opens e) = let P : ℕ → Type 0 = λ x. after_blanks (escaped_byte x ++ rest) ≡ escaped_byte x ++ rest in subst P (sym e) refl
  by_case (closes e) = let P : ℕ → Type 0 = λ x. after_blanks (escaped_byte x ++ rest) ≡ escaped_byte x ++ rest in subst P (sym e) refl
  by_case (plain n k e) = rw (e, h) refl

pub spells_escaped : (c : ℕ) (rest : List ℕ) → Spells (Exactly c) (escaped_byte c ++ rest) rest
spells_escaped c rest = by_case (escapes c) where
  by_case : Escapes c → Spells (Exactly c) (escaped_byte c ++ rest) rest
  by_case (opens e) = let P : ℕ → Type 0 = λ x. Spells (Exactly x) (escaped_byte x ++ rest) rest in subst P (sym e) (inr (inl (refl, refl)))
  by_case (closes e) = let P : ℕ → Type 0 = λ x. Spells (Exactly x) (escaped_byte x ++ rest) rest in subst P (sym e) (inr (inr refl))
  by_case (plain n k e) = inl (ap (λ (t : List ℕ). t ++ rest) e, n, k)
