-- Proofs of the laws of a reader's words, which its impl cites.
use Rattle.std.proofs.Common.{◌≡◌, ◌≤◌, ◌+◌, ◌-◌, ◌==◌, ◌||◌, ℕ, Bool, true, false, cond, nat_le, List, [], ◌∷◌, ◌++◌, length, take, drop, Option, Some, None, refl, sym, ◌∙◌, ap, arith, length-append, length-drop, length-take, take_all}
use Rattle.std.specs.Option.{option_map}
use Rattle.std.specs.Str.{is_utf8}
use Rattle.std.specs.Io.KnownBytes.{IsAtEnd}
use Rattle.std.proofs.lemmas.Bool.{leb-true}
use Rattle.edge_io.specs.Supply.{Supply}
use Rattle.whiteread.specs.Words.{onto_first, Words, words, is_blank}
use Rattle.whiteread.specs.Lines.{lines_of, line_feed, up_to_last_feed, has_feed}
use Rattle.whiteread.specs.Inner.WordProofs.{runs_short}
use Rattle.whiteread.specs.Stream.{IsStream}
use Rattle.whiteread.specs.ReaderState.{reader_source, reader_limit, reader_taken, reader_past, reader_waiting, reader_line, reader_passed}
use Rattle.whiteread.specs.ReaderState.ReaderWords.{reader_stream, words_of_lines, whole_within, words_ahead, words_in_line}
use Rattle.whiteread.specs.declared.reader.Reader.{Reader}

pub words_short : (xs : List ℕ) → length (words xs) ≤ length xs
unfolding words
words_short xs = runs_short is_blank xs

-- All bytes of some lines.
abbrev pub total : Words → ℕ
total [] = 0
total (line ∷ lines) = length line + total lines

words_of_lines_short : (lines : Words) → length (words_of_lines lines) ≤ total lines
words_of_lines_short [] = omega arith
words_of_lines_short (line ∷ lines) =
    elim (is_utf8 line) as (λ b. length (cond b (words line ++ words_of_lines lines) []) ≤ total (line ∷ lines)) [
      | true ↦ omega (arith, length-append (words line) (words_of_lines lines), words_short line, words_of_lines_short lines)
      | false ↦ omega arith
    ]

onto_first_total : (byte : ℕ) (pieces : Words) → total (onto_first byte pieces) ≤ 1 + total pieces
onto_first_total byte [] = omega arith
onto_first_total byte (piece ∷ pieces) = omega arith

lines_total : (xs : List ℕ) → total (lines_of xs) ≤ length xs
lines_total [] = omega arith
lines_total (x ∷ xs) =
    elim (x == line_feed) as (λ b. total (cond b ([] ∷ lines_of xs) (onto_first x (lines_of xs))) ≤ length (x ∷ xs)) [
      | true ↦ omega (arith, lines_total xs)
      | false ↦ omega (arith, onto_first_total x (lines_of xs), lines_total xs)
    ]

up_short : (xs : List ℕ) → length (up_to_last_feed xs) ≤ length xs
up_short [] = omega arith
up_short (x ∷ xs) =
    elim ((x == line_feed) || has_feed xs) as (λ b. length (cond b (x ∷ up_to_last_feed xs) []) ≤ length (x ∷ xs)) [
      | true ↦ omega (arith, up_short xs)
      | false ↦ omega arith
    ]

whole_short : (room : ℕ) (waiting rest : List ℕ) → length (whole_within room waiting rest) ≤ length waiting + room
whole_short room waiting rest =
    elim (nat_le (length rest) room) as (λ b. nat_le (length rest) room ≡ b → length (cond b (waiting ++ rest) (up_to_last_feed (waiting ++ take room rest))) ≤ length waiting + room) [
      | true ↦ λ h. omega (arith, length-append waiting rest, leb-true (length rest) room h)
      | false ↦ λ h. omega (arith, up_short (waiting ++ take room rest), length-append waiting (take room rest), length-take room rest)
    ] refl

ahead_short : (past : Bool) (room : ℕ) (waiting rest : List ℕ) → length (cond past [] (words_of_lines (lines_of (whole_within room waiting rest)))) ≤ length waiting + room
ahead_short true room waiting rest = omega arith
ahead_short false room waiting rest =
    omega (arith, words_of_lines_short (lines_of (whole_within room waiting rest)), lines_total (whole_within room waiting rest), whole_short room waiting rest)

left_short : {B : Type 0} (r : Reader B) (known : Option (List ℕ)) (all : Words) → option_map (λ bytes. words_in_line r ++ words_ahead r bytes) known ≡ Some all
    → length all ≤ (length (reader_line r) - reader_passed r) + length (reader_waiting r) + (reader_limit r - reader_taken r)
left_short r None all told = absurd (let e = told in cc)
left_short r (Some bytes) all told =
    let is : words_in_line r ++ words_ahead r bytes ≡ all = let e = told in cc in
    omega (
      arith,
      ap (λ (w : Words). length w) is,
      length-append (words_in_line r) (words_ahead r bytes),
      words_short (drop (reader_passed r) (reader_line r)),
      length-drop (reader_passed r) (reader_line r),
      ahead_short (reader_past r) (reader_limit r - reader_taken r) (reader_waiting r) bytes,
    )

pub none_whole : (room : ℕ) → whole_within room [] [] ≡ []
none_whole room = elim (nat_le 0 room) as (λ b. cond b ([] ++ []) (up_to_last_feed ([] ++ take room [])) ≡ []) [ true ↦ refl | false ↦ none_taken room ] where
  none_taken : (n : ℕ) → up_to_last_feed ([] ++ take n []) ≡ []
  none_taken n = ap up_to_last_feed (take_all n [] (omega arith))

none_ahead : (past : Bool) (room : ℕ) (waiting rest : List ℕ) → waiting ≡ [] → rest ≡ [] → cond past [] (words_of_lines (lines_of (whole_within room waiting rest))) ≡ []
none_ahead true room waiting rest w r = refl
none_ahead false room waiting rest w r =
    ap (λ (l : List ℕ). words_of_lines (lines_of (whole_within room l rest))) w ∙ ap (λ (l : List ℕ). words_of_lines (lines_of (whole_within room [] l))) r ∙ ap (λ (l : List ℕ). words_of_lines (lines_of l)) (none_whole room)

pub end_left : {B : Type 0} (r : Reader B) (known : Option (List ℕ)) (all : Words) → words_in_line r ≡ [] → reader_waiting r ≡ [] → IsAtEnd known
    → option_map (λ bytes. words_in_line r ++ words_ahead r bytes) known ≡ Some all → all ≡ []
end_left r None all line waiting end told = absurd (let e = told in cc)
end_left r (Some bytes) all line waiting end told =
    let is : words_in_line r ++ words_ahead r bytes ≡ all = let e = told in cc in
    sym is ∙ ap (λ (w : Words). w ++ words_ahead r bytes) line ∙ none_ahead (reader_past r) (reader_limit r - reader_taken r) (reader_waiting r) bytes waiting end

pub reader_is_stream : {B : Type 0} (supply : Supply B) → IsStream (reader_stream supply)
reader_is_stream supply = record {
  within = λ r all told. left_short r (supply.rest (reader_source r)) all told;
  none_at_end = λ r all end told. end_left r (supply.rest (reader_source r)) all end.line end.waiting end.end told;
}
