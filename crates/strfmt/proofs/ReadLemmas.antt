-- How a pattern is judged from its parts.
use Rattle.std.proofs.Common.{◌≡◌, ◌≢◌, ◌⊎◌, inl, inr, ℕ, ◌<◌, ◌≤◌, ◌+◌, min, List, [], ◌∷◌, ◌++◌, Option, Some, None, Result, Ok, Err, Bool, true, false, refl, length, suc, arith, sym, ◌∙◌, ap, subst, nat_lt}
use Rattle.std.specs.Prelude.{◌==◌, if◌then◌else◌, is_none, IsUtf8}
use Rattle.std.specs.List.{position_or_len}
use Rattle.std.proofs.lemmas.Bool.Decides.{nat_tests, eqb_tells}
use Rattle.std.proofs.lemmas.Str.{IsUtf8-nil}
use Rattle.strfmt.specs.declared.cause.Cause.{Cause}
use Rattle.strfmt.specs.declared.cause.Cause.TheVariants.{NoKey, LongType}
use Rattle.strfmt.specs.Fault.{Check, first_failure}
use Rattle.strfmt.specs.Spec.{Spec, View}
use Rattle.strfmt.specs.Grammar.Parts.{Parts, IsWritten}
use Rattle.strfmt.specs.Grammar.Pattern.{key_of, specification_of, checks_of, type_checks, spec_of, is_too_large, first_cause, read_as, IsRead}
use Rattle.strfmt.specs.Inner.Reading.{capped, capped_number}
use Rattle.strfmt.proofs.PartLemmas.{written_once, written_some}
use Rattle.strfmt.proofs.CutLemmas.{utf8_past_byte}

lt_min : (limit last n : ℕ) → limit < last → nat_lt limit (min n last) ≡ nat_lt limit n
lt_min limit last n h = grind (arith, nat_tests, h)

is_too_large-capped : (number : Option ℕ) → is_too_large (capped_number number) ≡ is_too_large number
is_too_large-capped None = refl
is_too_large-capped (Some n) = lt_min 9223372036854775807 18446744073709551615 n (omega arith)

capped-fits : (number : Option ℕ) → is_too_large number ≡ false → capped_number number ≡ number
capped-fits None h = refl
capped-fits (Some n) h =
    let small : n ≤ 9223372036854775807 = grind (arith, nat_tests, h) in
    ap (λ m. Some m) (omega (arith, small))

is_none-capped : (number : Option ℕ) → is_none (capped_number number) ≡ is_none number
is_none-capped None = refl
is_none-capped (Some n) = refl

first_failure-capped : (parts : Parts) → first_failure (checks_of (capped parts)) ≡ first_failure (checks_of parts)
first_failure-capped parts = rw (is_too_large-capped, is_too_large-capped, is_none-capped) refl

first_cause-capped : (key : List ℕ) (parts : Parts) → first_cause key (capped parts) ≡ first_cause key parts
first_cause-capped key parts = ap (λ (f : Option Cause). if length key == 0 then Some NoKey else f) (first_failure-capped parts)

-- each check passes
abbrev AllPass : List Check → Type 0
AllPass [] = Unit {0}
AllPass (check ∷ checks) = (check.fails ≡ false) × AllPass checks

-- where no check is the first to fail, none fails
pass_one : (fails : Bool) (cause : Cause) (checks : List Check) → (if fails then Some cause else first_failure checks) ≡ None
    → (first_failure checks ≡ None → AllPass checks) → (fails ≡ false) × AllPass checks
pass_one true cause checks h rest = cc
pass_one false cause checks h rest = (refl, rest h)

all_pass : (checks : List Check) → first_failure checks ≡ None → AllPass checks
all_pass [] h = tt
all_pass (check ∷ checks) h = pass_one check.fails check.cause checks h (all_pass checks)

spec_of-capped : (parts : Parts) → first_failure (checks_of parts) ≡ None → spec_of (capped parts) ≡ spec_of parts
spec_of-capped parts h =
    let pass = all_pass (checks_of parts) h in
    rw (capped-fits parts.width pass.0, capped-fits parts.precision pass.1.1.0) refl

no_cause : (empty : Bool) (failure : Option Cause) → (if empty then Some NoKey else failure) ≡ None → failure ≡ None
no_cause true failure h = cc
no_cause false failure h = h

judged : (pattern key : List ℕ) (parts : Parts) (cause : Option Cause) → first_cause key parts ≡ cause → read_as pattern (spec_of (capped parts)) cause ≡ read_as pattern (spec_of parts) cause
judged pattern key parts None h = ap (λ (spec : Spec). read_as pattern spec None) (spec_of-capped parts (no_cause (length key == 0) (first_failure (checks_of parts)) h))
judged pattern key parts (Some cause) h = refl

-- what the code reads from its parts
read_is : (pattern text key : List ℕ) (written parts : Parts) (cause : Option Cause) → text ≡ specification_of pattern → key ≡ key_of pattern → IsWritten text written → parts ≡ capped written
    → cause ≡ first_cause key parts → IsRead pattern (read_as pattern (spec_of parts) cause)
read_is pattern text key written parts cause t k w p e =
    let is : cause ≡ first_cause (key_of pattern) written = e ∙ ap (λ (q : Parts). first_cause key q) p ∙ first_cause-capped key written ∙ ap (λ (bs : List ℕ). first_cause bs written) k in
    let spec : read_as pattern (spec_of parts) cause ≡ read_as pattern (spec_of (capped written)) cause = ap (λ (q : Parts). read_as pattern (spec_of q) cause) p in
    let W : List ℕ → Type 0 = λ bs. IsWritten bs written in
    (written, subst W t w, spec ∙ judged pattern (key_of pattern) written cause (sym is) ∙ ap (λ (c : Option Cause). read_as pattern (spec_of written) c) is)

pub read_ok : (pattern text key : List ℕ) (written parts : Parts) (view : View) → text ≡ specification_of pattern → key ≡ key_of pattern → IsWritten text written → parts ≡ capped written
    → None ≡ first_cause key parts → view ≡ record { key = key; pattern = pattern; spec = spec_of parts; text = [] } → IsRead pattern (Ok view)
read_ok pattern text key written parts view t k w p e v =
    let is : view ≡ record { key = key_of pattern; pattern = pattern; spec = spec_of parts; text = [] } =
    v ∙ ap (λ (bs : List ℕ). record { key = bs; pattern = pattern; spec = spec_of parts; text = [] }) k in
    let P : View → Type 0 = λ x. IsRead pattern (Ok x) in
    subst P (sym is) (read_is pattern text key written parts None t k w p e)

pub read_err : (pattern text key : List ℕ) (written parts : Parts) (cause : Cause) → text ≡ specification_of pattern → key ≡ key_of pattern → IsWritten text written → parts ≡ capped written
    → Some cause ≡ first_cause key parts → IsRead pattern (Err cause)
read_err pattern text key written parts cause t k w p e = read_is pattern text key written parts (Some cause) t k w p e

-- what is left where a type may stand
pub left_none : (comma : Bool) (left : List ℕ) → length left ≡ 0 → None ≡ first_failure (type_checks comma left)
left_none comma [] h = refl
left_none comma (b ∷ bs) h = absurd (omega (arith, h))

pub left_one : (comma : Bool) (left more : List ℕ) (b : ℕ) (cause : Option Cause) → left ≡ b ∷ more → length more ≡ 0 → cause ≡ first_failure (type_checks comma (b ∷ [])) → cause ≡ first_failure (type_checks comma left)
left_one comma left [] b cause e h k = k ∙ ap (λ (bs : List ℕ). first_failure (type_checks comma bs)) (sym e)
left_one comma left (c ∷ cs) b cause e h k = absurd (omega (arith, h))

pub left_long : (comma : Bool) (left more : List ℕ) (b : ℕ) → left ≡ b ∷ more → length more ≢ 0 → Some LongType ≡ first_failure (type_checks comma left)
left_long comma left [] b e h = absurd (h refl)
left_long comma left (c ∷ cs) b e h = ap (λ (bs : List ℕ). first_failure (type_checks comma bs)) (sym e)

-- a pattern reads in one way
pub read_once : (pattern : List ℕ) (one other : Result View Cause) → IsRead pattern one → IsRead pattern other → one ≡ other
read_once pattern one other a b =
    a.2 ∙ ap (λ (p : Parts). read_as pattern (spec_of p) (first_cause (key_of pattern) p)) (written_once (specification_of pattern) a.0 b.0 a.1 b.1) ∙ sym b.2

-- after the first colon there is nothing, or the text that stands after it
abbrev Stands : List ℕ → Type 0
Stands text = (specification_of text ≡ []) ⊎ ((front : List ℕ) × (text ≡ front ++ 58 ∷ specification_of text))

behind : (b : ℕ) (bs : List ℕ) → (b == 58) ≡ false → specification_of (b ∷ bs) ≡ specification_of bs
behind b bs h =
    let n : ℕ = position_or_len (λ x. x == 58) bs in
    let e : 1 + n + 1 ≡ suc (n + 1) = omega arith in
    rw (h, e) refl

at_colon : (b : ℕ) (bs : List ℕ) → (((b == 58) ≡ true) × (b ≡ 58)) ⊎ (((b == 58) ≡ false) × (b ≢ 58)) → Stands bs → Stands (b ∷ bs)
at_colon b bs (inl e) s =
    let is : specification_of (b ∷ bs) ≡ bs = rw e.0 refl in
    inr ([], ap (λ (x : ℕ). x ∷ bs) e.1 ∙ ap (λ (xs : List ℕ). 58 ∷ xs) (sym is))
at_colon b bs (inr n) (inl s) = inl (behind b bs n.0 ∙ s)
at_colon b bs (inr n) (inr s) = inr (b ∷ s.0, ap (λ (xs : List ℕ). b ∷ xs) (s.1 ∙ ap (λ (xs : List ℕ). s.0 ++ 58 ∷ xs) (sym (behind b bs n.0))))

after_colon : (text : List ℕ) → Stands text
after_colon [] = inl refl
after_colon (b ∷ bs) = at_colon b bs (eqb_tells b 58) (after_colon bs)

utf8_behind : (text : List ℕ) → IsUtf8 text → Stands text → IsUtf8 (specification_of text)
utf8_behind text u (inl e) = subst IsUtf8 (sym e) IsUtf8-nil
utf8_behind text u (inr s) = utf8_past_byte text s.0 (specification_of text) 58 u (omega arith) s.1

utf8_specification : (text : List ℕ) → IsUtf8 text → IsUtf8 (specification_of text)
utf8_specification text u = utf8_behind text u (after_colon text)

pub read_some : (pattern : List ℕ) → IsUtf8 pattern → (read : Result View Cause) × IsRead pattern read
read_some pattern u =
    let w = written_some (specification_of pattern) (utf8_specification pattern u) in
    (read_as pattern (spec_of w.0) (first_cause (key_of pattern) w.0), (w.0, w.1, refl))
