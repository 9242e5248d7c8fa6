-- Proofs on runs and on white space that the laws of the impls cite; no contract does.
use Rattle.std.proofs.Common.{◌≡◌, ◌≤◌, ◌+◌, ℕ, Bool, true, false, cond, List, [], ◌∷◌, length, map, Some, None, refl, sym, ◌∙◌, ap, arith}
use Rattle.std.proofs.lemmas.List.{length-map}
use Rattle.std.specs.Prelude.{filter}
use Rattle.std.specs.Char.{is_whitespace, is_not_whitespace}
use Rattle.std.specs.List.{AllPass}
use Rattle.std.specs.Str.{NonePass, NoCharPasses, IsUtf8, is_utf8, chars, encode_utf8_all}
use Rattle.std.proofs.lemmas.Bool.{cond-true, not-false}
use Rattle.std.proofs.lemmas.List.Elements.{All-head, All-tail, All-cons, All-nil}
use Rattle.std.proofs.lemmas.Str.{IsUtf8-from_is_utf8, chars_from_encodes, encodes-chars, length-le-encodes}
use Rattle.std.specs.Str.Iter.{split_whitespace_rest}
use Rattle.whiteread.specs.Words.{Words, white_words, runs, pieces, onto_first, is_filled}
use Rattle.whiteread.specs.Stream.{IsStream}
use Rattle.whiteread.specs.Words.White.{white_stream}

-- A test of a byte or a character answers yes or no.
abbrev pub Test : Type 0
Test = ℕ → Bool

pub pass-head : (p : Test) (x : ℕ) (xs : List ℕ) → AllPass p (x ∷ xs) → p x ≡ true
pass-head p x xs all = All-head (λ y. p y ≡ true) x xs all

pub pass-tail : (p : Test) (x : ℕ) (xs : List ℕ) → AllPass p (x ∷ xs) → AllPass p xs
pass-tail p x xs all = All-tail (λ y. p y ≡ true) x xs all

pub pass-cons : (p : Test) (x : ℕ) (xs : List ℕ) → p x ≡ true → AllPass p xs → AllPass p (x ∷ xs)
pass-cons p x xs h all = All-cons (λ y. p y ≡ true) x xs h all

pub pass-nil : (p : Test) → AllPass p []
pass-nil p = All-nil (λ y. p y ≡ true)

pub pieces-blank : (blank : Test) (x : ℕ) (xs : List ℕ) → blank x ≡ true → pieces blank (x ∷ xs) ≡ [] ∷ pieces blank xs
pieces-blank blank x xs h = cond-true (blank x) ([] ∷ pieces blank xs) (onto_first x (pieces blank xs)) h

pub runs-blank : (blank : Test) (x : ℕ) (xs : List ℕ) → blank x ≡ true → runs blank (x ∷ xs) ≡ runs blank xs
runs-blank blank x xs h = ap (filter is_filled) (pieces-blank blank x xs h)

pub runs-none : (blank : Test) (xs : List ℕ) → AllPass blank xs → runs blank xs ≡ []
runs-none blank [] all = refl
runs-none blank (x ∷ xs) all = runs-blank blank x xs (pass-head blank x xs all) ∙ runs-none blank xs (pass-tail blank x xs all)

pub all_white : (cs : List ℕ) → NonePass is_not_whitespace cs → AllPass is_whitespace cs
all_white [] none = pass-nil is_whitespace
all_white (c ∷ cs) none = pass-cons is_whitespace c cs (not-false (is_whitespace c) none.0) (all_white cs none.1)

-- no word is left where all is white space
pub no_word : (text : List ℕ) → IsUtf8 text → NoCharPasses is_not_whitespace text → white_words text ≡ []
unfolding white_words
no_word text utf8 none =
    ap (λ cs. map encode_utf8_all (runs is_whitespace cs)) (sym (chars_from_encodes none.0 text utf8 none.1)) ∙ ap (map encode_utf8_all) (runs-none is_whitespace none.0 (all_white none.0 none.2))

-- one element more makes at most one run more
runs_onto : (x : ℕ) (all : Words) → length (filter is_filled (onto_first x all)) ≤ 1 + length (filter is_filled all)
runs_onto x [] = omega arith
runs_onto x ([] ∷ all) = omega arith
runs_onto x ((y ∷ piece) ∷ all) = omega arith

pub runs_short : (blank : Test) (xs : List ℕ) → length (runs blank xs) ≤ length xs
runs_short blank [] = omega arith
runs_short blank (x ∷ xs) =
    elim (blank x) as (λ b. length (filter is_filled (cond b ([] ∷ pieces blank xs) (onto_first x (pieces blank xs)))) ≤ length (x ∷ xs)) [
      | true ↦ omega (arith, runs_short blank xs)
      | false ↦ omega (arith, runs_short blank xs, runs_onto x (pieces blank xs))
    ]

white_short : (text : List ℕ) → IsUtf8 text → length (white_words text) ≤ length text
unfolding white_words
white_short text utf8 =
    omega (arith, length-map (runs is_whitespace (chars text)) encode_utf8_all, runs_short is_whitespace (chars text), length-le-encodes (chars text), ap (λ (l : List ℕ). length l) (encodes-chars text utf8))

told_words : (text : List ℕ) (words : Words) → cond (is_utf8 text) (Some (white_words text)) None ≡ Some words → IsUtf8 text × (white_words text ≡ words)
told_words text words told =
    elim (is_utf8 text) as (λ b. is_utf8 text ≡ b → cond b (Some (white_words text)) None ≡ Some words → IsUtf8 text × (white_words text ≡ words)) [
      | true ↦ λ h is. (IsUtf8-from_is_utf8 text h, let e : white_words text ≡ words = cc in e)
      | false ↦ λ h is. absurd (let e = is in cc)
    ] refl told

pub white_is_stream : IsStream white_stream
white_is_stream = record {
  within = λ s words told.
      let both = told_words (split_whitespace_rest s) words told in
      omega (arith, white_short (split_whitespace_rest s) both.0, ap (λ (w : Words). length w) both.1);
  none_at_end = λ s words end told.
      let both = told_words (split_whitespace_rest s) words told in
      sym both.1 ∙ no_word (split_whitespace_rest s) both.0 end;
}
