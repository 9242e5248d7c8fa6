-- A word or a character.
use Rattle.std.proofs.Common.{◌≡◌, ◌⊎◌, ◌<◌, ◌≤◌, ℕ, min, Bool, true, false, cond, List, [], ◌∷◌, ◌++◌, length, take, replicate, Option, Some, None, sym, ap, refl, inl, inr, ◌∙◌, arith, append-nil, chars, IsUtf8, encode_utf8, encode_utf8_all, take_all}
use Rattle.std.specs.List.{AllByRecursion}
use Rattle.std.specs.Char.{IsScalar}
use Rattle.std.specs.Fmt.Cut.{floor_char_boundary}
use Rattle.std.proofs.lemmas.Str.{IsUtf8-encode, chars_past_char, chars-nil, IsCharBoundary-end, length-encode, len_utf8_bounds}
use Rattle.sprintf.specs.declared.parser.ConversionType.{ConversionType}
use Rattle.sprintf.specs.declared.parser.ConversionType.TheVariants.{Char, String}
use Rattle.sprintf.specs.Field.{cut_to}
use Rattle.sprintf.proofs.Cut.{cut_is}
use Rattle.scan_fmt.specs.Grammar.{Until, Solid}
use Rattle.scan_fmt.specs.Scanned.{Suits, MayTake, IsLongest}
use Rattle.values.specs.declared.kind.Kind.{Kind}
use Rattle.values.specs.Datum.{Datum, word, character}
use Rattle.row_format.specs.Fit.{Takes}
use Rattle.row_format.specs.Row.{Reads}
use Rattle.row_laws.specs.Inner.Directives.{text_shape}
use Rattle.row_laws.proofs.Fields.Spaces.{AllSolid, fills_are, Laid}
use Rattle.row_laws.proofs.Fields.Longest.{EndsTaken, run_longest}
use Rattle.row_laws.proofs.Fields.Shown.{Standing}

-- the text of a word's or a character's field, by its flag
abbrev pub filled_text : Bool → ℕ → List ℕ → List ℕ
filled_text left room bytes = cond left (bytes ++ encode_utf8_all (replicate room 32)) (encode_utf8_all (replicate room 32) ++ bytes)

text_laid : (left : Bool) (room : ℕ) (bytes cs : List ℕ) → IsUtf8 bytes → chars bytes ≡ cs → AllSolid cs → 0 < length bytes → Laid [] cs (filled_text left room bytes)
text_laid true room bytes cs utf8 e solid some = record {
  before = 0;
  token = bytes;
  after = room;
  whole = ap (λ (x : List ℕ). bytes ++ x) (fills_are room 32 (omega arith));
  utf8 = utf8;
  spelled = e;
  solid = solid;
  some = some;
}
text_laid false room bytes cs utf8 e solid some = record {
  before = room;
  token = bytes;
  after = 0;
  whole = ap (λ (x : List ℕ). x ++ bytes) (fills_are room 32 (omega arith)) ∙ ap (λ (x : List ℕ). replicate room 32 ++ x) (sym (append-nil bytes));
  utf8 = utf8;
  spelled = e;
  solid = solid;
  some = some;
}

suits_solid : (end : Option ℕ) (cs : List ℕ) → AllByRecursion (Suits (Until end)) cs → AllSolid cs
suits_solid end [] h = tt
suits_solid end (c ∷ cs) h = (h.0.0, suits_solid end cs h.1)

text_longest : (v : ConversionType) (exact : Bool) (end : Option ℕ) (cs rest : List ℕ) → exact ≡ false → ((d : ℕ) → Suits (Until end) d → Takes v end d) → AllByRecursion (Suits (Until end)) cs
    → (exact ≡ true) ⊎ EndsTaken (Takes v end) rest → IsLongest (MayTake (text_shape end)) (cs ++ rest) cs rest
text_longest v exact end cs rest never too each (inl is) = absurd (let bad : true ≡ false = sym is ∙ never in cc)
text_longest v exact None cs rest never too each (inr ends) = run_longest Solid cs rest (suits_solid None cs each) (λ d at h. ends d at (too d (h, λ e. cc)))
text_longest v exact (Some c) cs rest never too each (inr ends) = run_longest (Until (Some c)) cs rest each (λ d at h. ends d at (too d h))

text_standing : (v : ConversionType) (kind : Kind) (value : Datum) (exact : Bool) (end : Option ℕ) (left : Bool) (room : ℕ) (bytes cs : List ℕ) → exact ≡ false → ((d : ℕ) → Suits (Until end) d → Takes v end d)
    → IsUtf8 bytes → chars bytes ≡ cs → AllByRecursion (Suits (Until end)) cs → 0 < length bytes → Reads v kind cs value → Standing v kind value exact end [] (text_shape end) (filled_text left room bytes)
text_standing v kind value exact None left room bytes cs never too utf8 e each some reads = record {
  taken = cs;
  laid = text_laid left room bytes cs utf8 e (suits_solid None cs each) some;
  longest = λ rest. text_longest v exact None cs rest never too each;
  reads = reads;
}
text_standing v kind value exact (Some c) left room bytes cs never too utf8 e each some reads = record {
  taken = cs;
  laid = text_laid left room bytes cs utf8 e (suits_solid (Some c) cs each) some;
  longest = λ rest. text_longest v exact (Some c) cs rest never too each;
  reads = reads;
}

pub word_standing : (kind : Kind) (text : List ℕ) (exact : Bool) (end : Option ℕ) (left : Bool) (room : ℕ) → exact ≡ false → IsUtf8 text → 0 < length text → AllByRecursion (Suits (Until end)) (chars text)
    → Standing String kind (word text) exact end [] (text_shape end) (filled_text left room text)
word_standing kind text exact end left room never utf8 some each = text_standing String kind (word text) exact end left room text (chars text) never (λ d h. h) utf8 refl each some (some, refl)

one_character : (c : ℕ) → IsScalar c → chars (encode_utf8 c) ≡ c ∷ []
one_character c is = chars_past_char (encode_utf8 c) [] c (IsUtf8-encode c is) (sym (append-nil (encode_utf8 c))) ∙ ap (λ (x : List ℕ). c ∷ x) chars-nil

pub character_standing : (kind : Kind) (c : ℕ) (exact : Bool) (end : Option ℕ) (left : Bool) (room : ℕ) → exact ≡ false → IsScalar c → Suits (Until end) c
    → Standing Char kind (character c) exact end [] (text_shape end) (filled_text left room (encode_utf8 c))
character_standing kind c exact end left room never is suits = text_standing Char kind (character c) exact end left room (encode_utf8 c) (c ∷ []) never (λ d h. h) (IsUtf8-encode c is) (one_character c is) (suits, tt)
    (omega (arith, length-encode c, (len_utf8_bounds c).0)) refl

-- a precision that is no less than the word cuts nothing
pub uncut : (precision : ℕ) (text : List ℕ) → length text ≤ precision → cut_to precision text ≡ text
uncut precision text le =
    let top : floor_char_boundary text (min precision (length text)) ≡ length text = cut_is text (length text) precision (IsCharBoundary-end text) le (λ k more _ at. omega (arith, more, at.0)) in
    ap (λ n. take n text) top ∙ take_all (length text) text (omega arith)
