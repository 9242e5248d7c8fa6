-- First characters and last bytes of texts.
use Rattle.std.proofs.Common.{eqb, cond, ◌≡◌, ◌≢◌, ◌&&◌, ◌<◌, ◌≤◌, ℕ, zero, suc, Bool, true, false, List, [], ◌∷◌, ◌++◌, length, replicate, Some, None, sym, ap, subst, refl, ◌∙◌, arith, append-nil, encode_utf8, nat_lt, not}
use Rattle.std.specs.Char.{digit_value, IsScalar}
use Rattle.std.specs.List.{list_all}
use Rattle.std.specs.Str.{chars, IsUtf8}
use Rattle.std.specs.Str.Parse.{AllDigits}
use Rattle.std.proofs.lemmas.Bool.{ne_eqb, eqb-true, and_parts}
use Rattle.std.proofs.lemmas.Bool.Decides.{nat_tests}
use Rattle.std.proofs.lemmas.Str.{chars-append, chars_past_char, chars-nil, IsUtf8-encode}
use Rattle.scan_fmt.specs.Grammar.{first}
use Rattle.row_format.specs.Plannable.{trailing_spaces}

-- ---- first characters

low_test : (c : ℕ) → c < 128 → nat_lt c 128 ≡ true
low_test c h = grind (arith, nat_tests)

pub first_ascii : (c : ℕ) (rest : List ℕ) → c < 128 → first (chars (c ∷ rest)) ≡ Some c
unfolding chars
first_ascii c [] h = rw (low_test c h) refl
first_ascii c (b ∷ bs) h = rw (low_test c h) refl

char_alone : (c : ℕ) → IsScalar c → chars (encode_utf8 c) ≡ c ∷ []
char_alone c is = chars_past_char (encode_utf8 c) [] c (IsUtf8-encode c is) (sym (append-nil (encode_utf8 c))) ∙ ap (λ (t : List ℕ). c ∷ t) chars-nil

pub first_char : (c : ℕ) (rest : List ℕ) → IsScalar c → first (chars (encode_utf8 c ++ rest)) ≡ Some c
first_char c rest is = ap first (chars-append (encode_utf8 c) rest (IsUtf8-encode c is) ∙ ap (λ (t : List ℕ). t ++ chars rest) (char_alone c is))

-- the first character of a text, whatever stands behind the text
pub first_of_text : (text rest more : List ℕ) (c : ℕ) → IsUtf8 text → text ≡ encode_utf8 c ++ rest → (first (chars text) ≡ Some c) × (first (chars (text ++ more)) ≡ Some c)
first_of_text text rest more c utf8 is =
    let one : chars text ≡ c ∷ chars rest = chars_past_char text rest c utf8 is in
    (ap first one, ap first (chars-append text more utf8 ∙ ap (λ (t : List ℕ). t ++ chars more) one))

pub first_none : first (chars []) ≡ None
first_none = ap first chars-nil

pub same_some : {a b : ℕ} → Some a ≡ Some b → a ≡ b
same_some e = cc

-- ---- spaces at the end

-- the text ends with a byte that is no space
abbrev pub EndsSolid : List ℕ → Type 0
EndsSolid [] = ⊥
EndsSolid (c ∷ []) = c ≢ 32
EndsSolid (c ∷ d ∷ cs) = EndsSolid (d ∷ cs)

and_false : (a b : Bool) → b ≡ false → (a && b) ≡ false
and_false true b h = h
and_false false b h = refl

not_all : (text : List ℕ) → EndsSolid text → list_all (λ x. eqb x 32) text ≡ false
not_all [] h = absurd h
not_all (c ∷ []) h = rw (ne_eqb c 32 h) refl
not_all (c ∷ d ∷ cs) h = and_false (eqb c 32) _ (not_all (d ∷ cs) h)

pub solid_trail : (text : List ℕ) → EndsSolid text → trailing_spaces text ≡ []
solid_trail [] h = absurd h
solid_trail (c ∷ []) h = rw (ne_eqb c 32 h) refl
solid_trail (c ∷ d ∷ cs) h = ap (λ (b : Bool). cond b (c ∷ d ∷ cs) (trailing_spaces (d ∷ cs))) (not_all (c ∷ d ∷ cs) h) ∙ solid_trail (d ∷ cs) h

pub solid_behind : (xs ys : List ℕ) → EndsSolid ys → EndsSolid (xs ++ ys)
solid_behind [] ys h = h
solid_behind (x ∷ []) [] h = absurd h
solid_behind (x ∷ []) (y ∷ ys) h = h
solid_behind (x ∷ z ∷ xs) ys h = solid_behind (z ∷ xs) ys h

-- spaces behind a text
abbrev pub spaces : ℕ → List ℕ
spaces n = replicate n 32

-- the text has a space at its end
abbrev pub EndsBlank : List ℕ → Type 0
EndsBlank [] = ⊥
EndsBlank (c ∷ []) = c ≡ 32
EndsBlank (c ∷ d ∷ cs) = EndsBlank (d ∷ cs)

blank_behind : (xs ys : List ℕ) → EndsBlank ys → EndsBlank (xs ++ ys)
blank_behind [] ys h = h
blank_behind (x ∷ []) [] h = absurd h
blank_behind (x ∷ []) (y ∷ ys) h = h
blank_behind (x ∷ z ∷ xs) ys h = blank_behind (z ∷ xs) ys h

spaces_blank : (n : ℕ) → EndsBlank (spaces (suc n))
spaces_blank zero = refl
spaces_blank (suc n) = spaces_blank n

cond_some : (b : Bool) (c : ℕ) (cs other : List ℕ) → other ≢ [] → cond b (c ∷ cs) other ≢ []
cond_some true c cs other h e = cc
cond_some false c cs other h e = h e

blank_trail : (text : List ℕ) → EndsBlank text → trailing_spaces text ≢ []
blank_trail [] h = absurd h
blank_trail (c ∷ []) h = let is : eqb c 32 ≡ true = ap (λ x. eqb x 32) h in rw is (λ e. cc)
blank_trail (c ∷ d ∷ cs) h = cond_some (list_all (λ x. eqb x 32) (c ∷ d ∷ cs)) c (d ∷ cs) (trailing_spaces (d ∷ cs)) (blank_trail (d ∷ cs) h)

pub room_trail : (xs ys : List ℕ) (n : ℕ) → 0 < n → trailing_spaces (xs ++ (ys ++ spaces n)) ≢ []
room_trail xs ys zero some = absurd (omega arith)
room_trail xs ys (suc n) some = blank_trail (xs ++ (ys ++ spaces (suc n))) (blank_behind xs (ys ++ spaces (suc n)) (blank_behind ys (spaces (suc n)) (spaces_blank n)))

-- the spaces at the end begin with a space, if there are any
pub all_first : (c : ℕ) (cs : List ℕ) (b : Bool) → list_all (λ x. eqb x 32) (c ∷ cs) ≡ b → b ≡ true → c ≡ 32
all_first c cs b is holds = eqb-true c 32 (and_parts (eqb c 32) (list_all (λ x. eqb x 32) cs) (is ∙ holds)).0

-- no text, or one that begins with a space
abbrev pub NoneOrSpace : List ℕ → Type 0
NoneOrSpace [] = Unit {0}
NoneOrSpace (c ∷ cs) = c ≡ 32

trail_by : (c : ℕ) (cs : List ℕ) (b : Bool) → list_all (λ x. eqb x 32) (c ∷ cs) ≡ b → NoneOrSpace (trailing_spaces cs) → NoneOrSpace (cond b (c ∷ cs) (trailing_spaces cs))
trail_by c cs true is later = all_first c cs true is refl
trail_by c cs false is later = later

pub trail_spaces : (text : List ℕ) → NoneOrSpace (trailing_spaces text)
trail_spaces [] = tt
trail_spaces (c ∷ cs) = trail_by c cs (list_all (λ x. eqb x 32) (c ∷ cs)) refl (trail_spaces cs)

-- digits end with no space
digit_solid : (c : ℕ) → digit_value c < 16 → c ≢ 32
digit_solid c h e = let bad : digit_value 32 < 16 = subst (λ x. digit_value x < 16) e h in omega arith

pub digits_solid : (b : ℕ) (text : List ℕ) → b ≤ 16 → 0 < length text → AllDigits b text → EndsSolid text
digits_solid b [] low some h = absurd (omega arith)
digits_solid b (c ∷ []) low some h = digit_solid c (omega (arith, h.0))
digits_solid b (c ∷ d ∷ cs) low some h = digits_solid b (d ∷ cs) low (omega arith) h.1

-- ---- tests

pub is_false : (b : Bool) → not b ≡ true → b ≡ false
is_false true h = absurd (let bad : false ≡ true = h in cc)
is_false false h = refl
