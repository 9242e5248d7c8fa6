-- Lemmas on where a text may be cut.
use Rattle.std.proofs.Common.{◌≡◌, ◌<◌, ◌≤◌, ◌∙◌, sym, ap, ℕ, zero, suc, List, length, arith, true, false, get_or, cond}
use Rattle.std.proofs.Math.Logic.{⊎_elim}
use Rattle.std.specs.Str.{IsCharBoundary}
use Rattle.std.specs.Fmt.{is_char_start}
use Rattle.std.specs.Fmt.Cut.{floor_char_boundary}
use Rattle.std.proofs.lemmas.Bool.{cases_lt}
use Rattle.std.proofs.lemmas.Bool.Decides.{nat_tests}
use Rattle.std.proofs.lemmas.List.{get_or_past}
use Rattle.whiteread.specs.declared.stream.error.Error.{Error}
use Rattle.whiteread.specs.declared.stream.error.Error.TheVariants.{TooShort, Leftovers, ParseError, IoError, NoMemory}
use Rattle.whiteread.specs.Located.Rendered.{last_of}

-- a byte that begins a character, and one that doesn't
starts : (b : ℕ) → (128 ≤ b → 192 ≤ b) → is_char_start b ≡ true
starts b h = ⊎_elim (λ low. grind (arith, nat_tests)) (λ high. let top = h high in grind (arith, nat_tests)) (cases_lt b 128)

continues : (b : ℕ) → ((128 ≤ b → 192 ≤ b) → ⊥) → is_char_start b ≡ false
continues b h =
    ⊎_elim (λ low. absurd (h (λ high. omega arith)))
    (λ high. ⊎_elim (λ mid. grind (arith, nat_tests)) (λ top. absurd (h (λ _. top))) (cases_lt b 192))
    (cases_lt b 128)

-- the end of a text counts as the beginning of a character
starts_or_ends : (bs : List ℕ) (i : ℕ) → IsCharBoundary bs i → is_char_start (get_or bs i 0) ≡ true
starts_or_ends bs i here =
    ⊎_elim (λ inside. starts _ (here.1 inside)) (λ past. ap is_char_start (get_or_past bs i 0 past)) (cases_lt i (length bs))

continues_inside : (bs : List ℕ) (i : ℕ) → i ≤ length bs → (IsCharBoundary bs i → ⊥) → is_char_start (get_or bs i 0) ≡ false
continues_inside bs i within refused = continues _ (λ h. refused (within, λ _. h))

-- the last place up to i where a text may be cut
pub floor_is : (bs : List ℕ) (i kept : ℕ) → i ≤ length bs → kept ≤ i → IsCharBoundary bs kept
    → ((j : ℕ) → kept < j → j ≤ i → IsCharBoundary bs j → ⊥) → floor_char_boundary bs i ≡ kept
unfolding floor_char_boundary
floor_is bs zero kept within low here last = omega arith
floor_is bs (suc i) kept within low here last =
    ⊎_elim
    (λ below. ap (λ t. cond t (suc i) (floor_char_boundary bs i)) (continues_inside bs (suc i) within (last (suc i) below (omega arith)))
    ∙ floor_is bs i kept (omega arith) (omega arith) here (λ j p q. last j p (omega arith)))
    (λ above.
    let same : kept ≡ suc i = omega arith in
    ap (λ t. cond t (suc i) (floor_char_boundary bs i)) (starts_or_ends bs (suc i) (rw (← same) here)) ∙ sym same)
    (cases_lt kept (suc i))

-- the last byte before a place is not after it
pub last_of-le : (error : Error) (place : ℕ) → last_of error place ≤ place
last_of-le (TooShort progress) place = omega arith
last_of-le Leftovers place = omega arith
last_of-le ParseError place = omega arith
last_of-le (IoError fault) place = omega arith
last_of-le NoMemory place = omega arith
