-- A field's text: spaces, its token, and spaces.
use Rattle.std.proofs.Common.{◌≡◌, ◌≢◌, ◌<◌, ◌==◌, ℕ, zero, suc, true, false, List, [], ◌∷◌, ◌++◌, length, replicate, sym, ap, subst, refl, ◌∙◌, arith, chars, IsUtf8, IsAscii, append_assoc, encode_utf8_all, eqb, ne_eqb, eq-eqb, get_or}
use Rattle.std.specs.List.{AllByRecursion, list_all}
use Rattle.std.specs.Str.{NonePass}
use Rattle.std.proofs.lemmas.Str.{chars-append, chars-IsAscii, encodes-chars, IsUtf8-from_ascii, encode_ascii, NoCharPasses-byte}
use Rattle.scan_fmt.specs.Grammar.{is_blank}
use Rattle.row_format.specs.Plannable.{trailing_spaces}

-- no white space
abbrev pub AllSolid : List ℕ → Type 0
AllSolid = AllByRecursion (λ c. is_blank c ≡ false)

-- no spaces among bytes
abbrev NoSpaces : List ℕ → Type 0
NoSpaces = AllByRecursion (λ c. c ≢ 32)

-- ASCII characters but white space
abbrev pub AllPlain : List ℕ → Type 0
AllPlain = AllByRecursion (λ c. (c < 128) × (is_blank c ≡ false))

pub each_append : (P : ℕ → Type 0) (xs ys : List ℕ) → AllByRecursion P xs → AllByRecursion P ys → AllByRecursion P (xs ++ ys)
each_append P [] ys h k = k
each_append P (x ∷ xs) ys h k = (h.0, each_append P xs ys h.1 k)

-- ASCII texts

ascii_from : (xs : List ℕ) → AllByRecursion (λ c. c < 128) xs → IsAscii xs
ascii_from [] h i = omega arith
ascii_from (x ∷ xs) h zero = h.0
ascii_from (x ∷ xs) h (suc i) = ascii_from xs h.1 i

spaces_ascii : (n : ℕ) → IsAscii (replicate n 32)
spaces_ascii n = ascii_from (replicate n 32) (all n) where
  all : (m : ℕ) → AllByRecursion (λ d. d < 128) (replicate m 32)
  all zero = tt
  all (suc m) = (omega arith, all m)

plain_low : (xs : List ℕ) → AllPlain xs → AllByRecursion (λ c. c < 128) xs
plain_low [] h = tt
plain_low (x ∷ xs) h = (h.0.0, plain_low xs h.1)

pub plain_solid : (xs : List ℕ) → AllPlain xs → AllSolid xs
plain_solid [] h = tt
plain_solid (x ∷ xs) h = (h.0.1, plain_solid xs h.1)

pub plain_utf8 : (xs : List ℕ) → AllPlain xs → IsUtf8 xs
plain_utf8 xs h = IsUtf8-from_ascii xs (ascii_from xs (plain_low xs h))

pub plain_chars : (xs : List ℕ) → AllPlain xs → chars xs ≡ xs
plain_chars xs h = chars-IsAscii xs (ascii_from xs (plain_low xs h))

pub spaces_chars : (n : ℕ) (rest : List ℕ) → chars (replicate n 32 ++ rest) ≡ replicate n 32 ++ chars rest
spaces_chars n rest = chars-append (replicate n 32) rest (IsUtf8-from_ascii _ (spaces_ascii n)) ∙ ap (λ (x : List ℕ). x ++ chars rest) (chars-IsAscii (replicate n 32) (spaces_ascii n))

pub spaces_utf8 : (n : ℕ) → IsUtf8 (replicate n 32)
spaces_utf8 n = IsUtf8-from_ascii _ (spaces_ascii n)

pub only_spaces_chars : (n : ℕ) → chars (replicate n 32) ≡ replicate n 32
only_spaces_chars n = chars-IsAscii (replicate n 32) (spaces_ascii n)

-- a byte that is written so many times
pub fills_are : (n c : ℕ) → c < 128 → encode_utf8_all (replicate n c) ≡ replicate n c
fills_are zero c h = refl
fills_are (suc n) c h = rw (encode_ascii c h) (ap (λ (x : List ℕ). c ∷ x) (fills_are n c h))

-- a text without white space has no byte that is a space
no_space : (c : ℕ) → is_blank c ≡ false → c ≢ 32
no_space c h e = let bad : true ≡ false = sym (ap is_blank e) ∙ h in cc

none_pass : (cs : List ℕ) → AllSolid cs → NonePass (λ x. x == 32) cs
none_pass [] h = tt
none_pass (c ∷ cs) h = (ne_eqb c 32 (no_space c h.0), none_pass cs h.1)

each_by_index : (xs : List ℕ) → ((k : ℕ) → k < length xs → get_or xs k 0 ≢ 32) → NoSpaces xs
each_by_index [] h = tt
each_by_index (x ∷ xs) h = (h 0 (omega arith), each_by_index xs (λ k low. h (suc k) (omega (arith, low))))

no_spaces : (text : List ℕ) → IsUtf8 text → AllSolid (chars text) → NoSpaces text
no_spaces text utf8 h = each_by_index text (λ k low e.
    let fails : eqb (get_or text k 0) 32 ≡ false = NoCharPasses-byte (λ x. x == 32) text k (chars text, encodes-chars text utf8, none_pass (chars text) h) low (omega (arith, e)) in
    let bad : true ≡ false = sym (eq-eqb (get_or text k 0) 32 e) ∙ fails in
    cc)

-- the trailing spaces are those behind the token

all_are : (n : ℕ) → list_all (λ x. x == 32) (replicate n 32) ≡ true
all_are zero = refl
all_are (suc n) = all_are n

pub trailing_all : (n : ℕ) → trailing_spaces (replicate n 32) ≡ replicate n 32
trailing_all zero = refl
trailing_all (suc n) = rw (all_are n) refl

other_in : (a c : ℕ) (rest : List ℕ) → c ≢ 32 → list_all (λ x. x == 32) (replicate a 32 ++ c ∷ rest) ≡ false
other_in zero c rest h = rw (ne_eqb c 32 h) refl
other_in (suc a) c rest h = other_in a c rest h

trailing_after : (xs ys : List ℕ) → NoSpaces xs → trailing_spaces (xs ++ ys) ≡ trailing_spaces ys
trailing_after [] ys h = refl
trailing_after (x ∷ xs) ys h = rw (other_in 0 x (xs ++ ys) h.0) (trailing_after xs ys h.1)

trailing_before : (a c : ℕ) (rest : List ℕ) → c ≢ 32 → trailing_spaces (replicate a 32 ++ c ∷ rest) ≡ trailing_spaces (c ∷ rest)
trailing_before zero c rest h = refl
trailing_before (suc a) c rest h = rw (other_in a c rest h) (trailing_before a c rest h)

trailing_is : (a m : ℕ) (token : List ℕ) → 0 < length token → NoSpaces token → trailing_spaces (replicate a 32 ++ (token ++ replicate m 32)) ≡ replicate m 32
trailing_is a m [] some h = absurd (omega (arith, some))
trailing_is a m (x ∷ xs) some h = trailing_before a x (xs ++ replicate m 32) h.0 ∙ trailing_after (x ∷ xs) (replicate m 32) h ∙ trailing_all m

-- the text is spaces, a token and spaces; the token is the front and what is taken
pub record Laid (front taken text : List ℕ) : Type 0 where
  pub before : ℕ
  pub token : List ℕ
  pub after : ℕ
  pub whole : text ≡ replicate before 32 ++ (token ++ replicate after 32)
  pub utf8 : IsUtf8 token
  pub spelled : chars token ≡ front ++ taken
  pub solid : AllSolid (front ++ taken)
  pub some : 0 < length token

pub laid_trail : (front taken text : List ℕ) (l : Laid front taken text) → trailing_spaces text ≡ replicate l.after 32
laid_trail front taken text l = ap trailing_spaces l.whole ∙ trailing_is l.before l.after l.token l.some (no_spaces l.token l.utf8 (subst AllSolid (sym l.spelled) l.solid))

pub laid_chars : (front taken text : List ℕ) (l : Laid front taken text) → chars text ≡ replicate l.before 32 ++ (front ++ (taken ++ replicate l.after 32))
laid_chars front taken text l =
    ap chars l.whole ∙ spaces_chars l.before (l.token ++ replicate l.after 32)
    ∙ ap (λ (x : List ℕ). replicate l.before 32 ++ x) (chars-append l.token (replicate l.after 32) l.utf8
    ∙ ap (λ (x : List ℕ). chars l.token ++ x) (only_spaces_chars l.after)
    ∙ ap (λ (x : List ℕ). x ++ replicate l.after 32) l.spelled
    ∙ append_assoc front taken (replicate l.after 32))
