-- Fills and fronts of a text, in characters and in bytes.
use Rattle.std.proofs.Common.{◌≡◌, ℕ, ◌+◌, ◌-◌, ◌*◌, ◌<◌, ◌≤◌, List, [], ◌∷◌, ◌++◌, refl, length, take, replicate, arith, sym, ◌∙◌, ap, append_assoc, append-nil, length-append, suc, zero, add-one}
use Rattle.std.specs.Prelude.{IsUtf8, encode_utf8_all, encode_utf8, IsCharBoundary}
use Rattle.std.specs.Str.{chars}
use Rattle.std.proofs.lemmas.Str.{encodes-append, chars_past_char, chars-nil, IsUtf8-past_char, IsCharBoundary-at_seam}
use Rattle.std.proofs.lemmas.List.{take_all}
use Rattle.std.proofs.Math.Seq.{take-append_seam}
use Rattle.std.proofs.Math.Nat.{mul-le-mul_right}

-- one more fill at the end
replicate_one : (n c : ℕ) → encode_utf8_all (replicate n c) ++ encode_utf8 c ≡ encode_utf8 c ++ encode_utf8_all (replicate n c)
replicate_one zero c = sym (append-nil (encode_utf8 c))
replicate_one (suc n) c =
    append_assoc (encode_utf8 c) (encode_utf8_all (replicate n c)) (encode_utf8 c) ∙ ap (λ (bs : List ℕ). encode_utf8 c ++ bs) (replicate_one n c)

pub fills-more : (n c : ℕ) → encode_utf8_all (replicate (n + 1) c) ≡ encode_utf8_all (replicate n c) ++ encode_utf8 c
fills-more n c = rw (add-one n) (sym (replicate_one n c))

-- i characters of the text are passed, and rest is left
pub record Passed (text : List ℕ) (i : ℕ) (rest : List ℕ) : Type 0 where
  pub front : List ℕ
  pub count : length front ≡ i
  pub seam : text ≡ encode_utf8_all front ++ rest
  pub chars_are : chars text ≡ front ++ chars rest
  pub utf8 : IsUtf8 rest

pub passed_none : (text : List ℕ) → IsUtf8 text → Passed text 0 text
passed_none text u = record { front = []; count = refl; seam = refl; chars_are = refl; utf8 = u }

pub passed_more : (text rest rest' : List ℕ) (i c : ℕ) → Passed text i rest → rest ≡ encode_utf8 c ++ rest' → Passed text (i + 1) rest'
passed_more text rest rest' i c p e =
    let whole : encode_utf8_all (p.front ++ c ∷ []) ≡ encode_utf8_all p.front ++ encode_utf8 c =
    encodes-append p.front (c ∷ []) ∙ ap (λ (bs : List ℕ). encode_utf8_all p.front ++ bs) (append-nil (encode_utf8 c)) in
    record {
      front = p.front ++ c ∷ [];
      count = omega (arith, p.count, length-append p.front (c ∷ []));
      seam = p.seam ∙ ap (λ (bs : List ℕ). encode_utf8_all p.front ++ bs) e ∙ sym (append_assoc (encode_utf8_all p.front) (encode_utf8 c) rest')
          ∙ ap (λ (bs : List ℕ). bs ++ rest') (sym whole);
      chars_are = p.chars_are ∙ ap (λ (cs : List ℕ). p.front ++ cs) (chars_past_char rest rest' c p.utf8 e) ∙ sym (append_assoc p.front (c ∷ []) (chars rest'));
      utf8 = IsUtf8-past_char rest rest' c p.utf8 e;
    }

-- all characters were passed before n of them
pub passed_all : (text rest : List ℕ) (i n : ℕ) → IsUtf8 text → Passed text i rest → length rest ≡ 0 → i < n → text ≡ encode_utf8_all (take n (chars text))
passed_all text [] i n u p z h =
    let cs : chars text ≡ p.front = p.chars_are ∙ ap (λ (bs : List ℕ). p.front ++ bs) chars-nil ∙ append-nil p.front in
    let all : take n (chars text) ≡ p.front = ap (λ (xs : List ℕ). take n xs) cs ∙ take_all n p.front (omega (arith, p.count)) in
    p.seam ∙ append-nil (encode_utf8_all p.front) ∙ ap encode_utf8_all (sym all)
passed_all text (b ∷ bs) i n u p z h = absurd (omega (arith, z))

-- n characters were passed
at_seam : (text rest : List ℕ) (n : ℕ) (p : Passed text n rest) → length text - length rest ≡ length (encode_utf8_all p.front)
at_seam text rest n p = omega (arith, ap length p.seam, length-append (encode_utf8_all p.front) rest)

pub passed_take : (text rest : List ℕ) (n : ℕ) → Passed text n rest → take (length text - length rest) text ≡ encode_utf8_all (take n (chars text))
passed_take text rest n p =
    let left : take (length text - length rest) text ≡ encode_utf8_all p.front =
    ap (λ k. take k text) (at_seam text rest n p) ∙ ap (λ (bs : List ℕ). take (length (encode_utf8_all p.front)) bs) p.seam ∙ take-append_seam (encode_utf8_all p.front) rest in
    let right : take n (chars text) ≡ p.front =
    ap (λ (cs : List ℕ). take n cs) p.chars_are ∙ ap (λ k. take k (p.front ++ chars rest)) (sym p.count) ∙ take-append_seam p.front (chars rest) in
    left ∙ ap encode_utf8_all (sym right)

pub passed_boundary : (text rest : List ℕ) (n : ℕ) → Passed text n rest → IsCharBoundary text (length text - length rest)
passed_boundary text rest n p =
    rw (at_seam text rest n p) (IsCharBoundary-at_seam text (encode_utf8_all p.front) rest p.seam p.utf8)

-- room for n fills has room for one more after i of them
pub room_left : (i n size len capacity : ℕ) → i < n → len + n * size ≤ capacity → len + i * size + size ≤ capacity
room_left i n size len capacity h room =
    let wide : (i + 1) * size ≤ n * size = mul-le-mul_right size (omega (arith, h)) in
    omega (arith, wide, room)
