-- What fields print of the words that are taken.
use Rattle.std.proofs.Common.{◌≡◌, ◌<◌, ◌≤◌, ◌+◌, ◌-◌, min, take_all, ℕ, Bool, true, false, if◌then◌else◌, List, [], ◌∷◌, ◌++◌, length, take, drop, zero, suc, length-drop, get_or, Option, Some, None, Result, Ok, map, not, cond, eqb, leb, ◌%◌, ◌^◌, sym, ap, ap₂, subst, refl, ◌∙◌, ⊎_elim, arith}
use Rattle.std.specs.List.{AllByRecursion, prefix_len}
use lib.Bits.{bit_or}
use lib.Count.{count_trailing_zeros}
use lib.Lanes.{chunk, mask_l, top}
use Rattle.std.proofs.lemmas.Simd.{length-chunk, map-map, mask_l-mod, leading_from_mask_l, trailing_mask_l, run_in_chunk_le, run_in_chunk_fails}
use Rattle.std.specs.Str.{byte, chars, IsUtf8, IsCharBoundary, encode_utf8_all}
use Rattle.std.specs.Char.{encode_utf8}
use Rattle.std.proofs.lemmas.Bool.{cases_lt, leb-false, eqb-false}
use Rattle.std.proofs.lemmas.Bool.Decides.{nat_tests}
use Rattle.std.proofs.lemmas.List.{append-nil, take_more, take_rest, length-take-le, take-append-drop, take-take, drop-take, length-map}
use Rattle.std.proofs.lemmas.Str.{chars-nil, chars_past_char, encode_ascii, encodes-chars, IsCharBoundary-end, IsUtf8-take}
use Rattle.std.specs.Fmt.Cut.{floor_char_boundary}
use Rattle.padding.specs.Field.{fills}
use Rattle.sprintf.proofs.Cut.{cut_is}
use Rattle.sprintf.specs.declared.PrintfError.{PrintfError}
use Rattle.sprintf.specs.declared.parser.ConversionSpecifier.{ConversionSpecifier}
use Rattle.sprintf.specs.declared.parser.ConversionType.{ConversionType}
use Rattle.sprintf.specs.declared.parser.ConversionType.TheVariants.{String}
use Rattle.sprintf.specs.Field.{number_of, with_number, word_text, filled_word, cut_to}
use Rattle.sprintf.specs.Meaning.{by_conversion}
use Rattle.scan_fmt.specs.Grammar.{first, is_blank, Until}
use Rattle.scan_fmt.specs.Scanned.{Suits}
use Rattle.values.specs.declared.kind.Kind.{Kind}
use Rattle.values.specs.declared.kind.Kind.TheVariants.{Word as WordKind}
use Rattle.row_format.specs.Inner.Elements.{text_or_none}
use Rattle.columns.specs.Fields.{token_text}
use Rattle.columns.specs.Inner.Serves.{Serves, IsStop}
use Rattle.columns.specs.Inner.Shapes.{IsWordByte, IsTaken}
use Rattle.columns.specs.declared.take.Take.TheVariants.{Word}
use Rattle.tokens.specs.declared.Token.{Token}

-- the bytes that are counted

all_append : (P : ℕ → Type 0) (xs ys : List ℕ) → AllByRecursion P xs → AllByRecursion P ys → AllByRecursion P (xs ++ ys)
all_append P [] ys all more = more
all_append P (x ∷ xs) ys all more = (all.0, all_append P xs ys all.1 more)

take_sum : (m n : ℕ) (xs : List ℕ) → take (m + n) xs ≡ take m xs ++ take n (drop m xs)
take_sum m n xs = sym (take-append-drop m (take (m + n) xs)) ∙ ap₂ (λ (a b : List ℕ). a ++ b) (take-take m (m + n) xs (omega arith)) (drop-take m n xs)

all_push : (P : ℕ → Type 0) (xs : List ℕ) (x : ℕ) → AllByRecursion P xs → P x → AllByRecursion P (xs ++ x ∷ [])
all_push P [] x all one = (one, tt)
all_push P (y ∷ xs) x all one = (all.0, all_push P xs x all.1 one)

pub bytes_more : (text : List ℕ) (i stop : ℕ) → i < length text → AllByRecursion (IsWordByte stop) (take i text) → IsWordByte stop (get_or text i 0) → AllByRecursion (IsWordByte stop) (take (i + 1) text)
bytes_more text i stop within all one = subst (AllByRecursion (IsWordByte stop)) (sym (take_more text i 0 within)) (all_push (IsWordByte stop) (take i text) (get_or text i 0) all one)

-- bytes in front, each by its place
all_front : (text : List ℕ) (stop r : ℕ) → r ≤ length text → ((k : ℕ) → k < r → IsWordByte stop (get_or text k 0)) → AllByRecursion (IsWordByte stop) (take r text)
all_front text stop zero le at = tt
all_front text stop (suc r) le at =
    let e : r + 1 ≡ suc r = omega arith in
    subst (λ n. AllByRecursion (IsWordByte stop) (take n text)) e
    (bytes_more text r stop (omega (arith, le)) (all_front text stop r (omega (arith, le)) (λ k lt. at k (omega (arith, lt)))) (at r (omega arith)))

pub all_behind_run : (text : List ℕ) (stop len run : ℕ) → AllByRecursion (IsWordByte stop) (take len text) → AllByRecursion (IsWordByte stop) (take run (drop len text)) → AllByRecursion (IsWordByte stop) (take (len + run) text)
all_behind_run text stop len run all more = subst (AllByRecursion (IsWordByte stop)) (sym (take_sum len run text)) (all_append (IsWordByte stop) (take len text) (take run (drop len text)) all more)

-- the lanes of a test of sixteen bytes

abbrev pub may_end : ℕ → ℕ → ℕ
may_end stop c = bit_or (cond (leb c 32) 255 0) (cond (eqb c stop) 255 0)

neither : (a b : Bool) → top 7 (bit_or (cond a 255 0) (cond b 255 0)) ≡ false → (a ≡ false) × (b ≡ false)
neither true true e = absurd cc
neither true false e = absurd cc
neither false true e = absurd cc
neither false false e = (refl, refl)

above_space : (c : ℕ) → 32 < c → is_blank c ≡ false
above_space c high = grind (arith, nat_tests)

sure_byte : (stop c : ℕ) → top 7 (may_end stop c) ≡ false → IsWordByte stop c
sure_byte stop c none =
    let parts = neither (leb c 32) (eqb c stop) none in
    (above_space c (leb-false c 32 parts.0), eqb-false c stop parts.1)

mask_is : (text : List ℕ) (stop : ℕ) {z : List ℕ} → 16 ≤ length text → z ≡ map (may_end stop) (chunk 0 16 text) → mask_l (map (top 7) z) % 2 ^ 64 ≡ mask_l (map (λ c. top 7 (may_end stop c)) (chunk 0 16 text))
mask_is text stop long lanes =
    let v = chunk 0 16 text in
    let size = length-chunk 0 16 text long in
    ap (λ l. mask_l l % 2 ^ 64) (ap (map (top 7)) lanes ∙ map-map (top 7) (may_end stop) v) ∙ mask_l-mod (map (λ c. top 7 (may_end stop c)) v) 64 (omega (arith, length-map v (λ c. top 7 (may_end stop c)), size))

sure_front : (text : List ℕ) (stop r : ℕ) → 16 ≤ length text → r ≡ prefix_len (λ c. not (top 7 (may_end stop c))) (chunk 0 16 text) → AllByRecursion (IsWordByte stop) (take r text) × (r ≤ 16)
sure_front text stop r long counted =
    let few : r ≤ 16 = run_in_chunk_le (λ c. top 7 (may_end stop c)) text 0 16 r 0 long counted in
    (all_front text stop r (omega (arith, few, long)) (λ k lt. sure_byte stop (get_or text k 0) (run_in_chunk_fails (λ c. top 7 (may_end stop c)) text 0 16 r 0 long counted k (omega arith) (omega (arith, lt)))), few)

pub sure_all : (text : List ℕ) (stop : ℕ) {z : List ℕ} → 16 ≤ length text → z ≡ map (may_end stop) (chunk 0 16 text) → mask_l (map (top 7) z) % 2 ^ 64 ≡ 0 → AllByRecursion (IsWordByte stop) (take 16 text) × (16 ≤ 16)
sure_all text stop long lanes none =
    sure_front text stop 16 long (sym (leading_from_mask_l (λ c. top 7 (may_end stop c)) (chunk 0 16 text) (sym (mask_is text stop long lanes) ∙ none) ∙ length-chunk 0 16 text long))

pub sure_some : (text : List ℕ) (stop r : ℕ) {z : List ℕ} → 16 ≤ length text → z ≡ map (may_end stop) (chunk 0 16 text) → (mask_l (map (top 7) z) % 2 ^ 64 ≡ 0 → ⊥) → r ≡ count_trailing_zeros 64 (mask_l (map (top 7) z) % 2 ^ 64) → AllByRecursion (IsWordByte stop) (take r text) × (r ≤ 16)
sure_some text stop r long lanes some is =
    let mask = mask_is text stop long lanes in
    let size = length-chunk 0 16 text long in
    let more : 0 < mask_l (map (λ c. top 7 (may_end stop c)) (chunk 0 16 text)) = ⊎_elim (λ (zero_ : mask_l (map (λ c. top 7 (may_end stop c)) (chunk 0 16 text)) < 1). absurd (some (mask ∙ omega (arith, zero_)))) (λ (one : 1 ≤ mask_l (map (λ c. top 7 (may_end stop c)) (chunk 0 16 text))). omega (arith, one)) (cases_lt (mask_l (map (λ c. top 7 (may_end stop c)) (chunk 0 16 text))) 1) in
    sure_front text stop r long (is ∙ ap (count_trailing_zeros 64) mask ∙ trailing_mask_l (λ c. top 7 (may_end stop c)) 64 (chunk 0 16 text) (omega (arith, size)) more)

-- from bytes to characters

all_behind : (P : ℕ → Type 0) (xs ys : List ℕ) → AllByRecursion P (xs ++ ys) → AllByRecursion P ys
all_behind P [] ys all = all
all_behind P (x ∷ xs) ys all = all_behind P xs ys all.1

wide_no_blank : (c : ℕ) → 128 ≤ c → is_blank c ≡ false
wide_no_blank c wide = grind (arith, nat_tests)

suits_one : (after : List ℕ) (stop c : ℕ) → IsStop after stop → IsWordByte stop c → Suits (Until (first (chars after))) c
suits_one after stop c is one = (one.0, λ e. one.1 (is.is c one.0 e))

suits_wide : (after : List ℕ) (stop c : ℕ) → IsStop after stop → 128 ≤ c → Suits (Until (first (chars after))) c
suits_wide after stop c is wide = suits_one after stop c is (wide_no_blank c wide, λ e. absurd (omega (arith, e, wide, is.ascii)))

suits_all : (after : List ℕ) (stop : ℕ) (cs : List ℕ) → IsStop after stop → AllByRecursion (IsWordByte stop) (encode_utf8_all cs) → AllByRecursion (Suits (Until (first (chars after)))) cs
suits_all after stop [] is all = tt
suits_all after stop (c ∷ cs) is all =
    let later : AllByRecursion (Suits (Until (first (chars after)))) cs = suits_all after stop cs is (all_behind (IsWordByte stop) (encode_utf8 c) (encode_utf8_all cs) all) in
    ⊎_elim
    (λ (small : c < 128). (suits_one after stop c is (subst (λ (t : List ℕ). AllByRecursion (IsWordByte stop) (t ++ encode_utf8_all cs)) (encode_ascii c small) all).0, later))
    (λ (wide : 128 ≤ c). (suits_wide after stop c is wide, later))
    (cases_lt c 128)

suits : (after text : List ℕ) (stop : ℕ) → IsStop after stop → IsUtf8 text → AllByRecursion (IsWordByte stop) text → AllByRecursion (Suits (Until (first (chars after)))) (chars text)
suits after text stop is utf8 all = suits_all after stop (chars text) is (subst (AllByRecursion (IsWordByte stop)) (sym (encodes-chars text utf8)) all)

-- where a word ends

no_first : (after : List ℕ) → length after ≡ 0 → first (chars after) ≡ None
no_first [] e = ap first chars-nil
no_first (b ∷ after) e = absurd (omega (arith, e))

pub stop_none : (after : List ℕ) → length after ≡ 0 → IsStop after 10
stop_none after e = record { ascii = omega arith; is = λ c solid same. (let none : Some c ≡ None = same ∙ no_first after e in cc) }

stop_is : (after : List ℕ) (b other : ℕ) → IsUtf8 after → 1 ≤ length after → b ≡ get_or after 0 other → b < 128 → first (chars after) ≡ Some b
stop_is [] b other utf8 some is ascii = absurd (omega (arith, some))
stop_is (x ∷ after) b other utf8 some is ascii =
    ap first (chars_past_char (x ∷ after) after x utf8 (ap (λ (t : List ℕ). t ++ after) (sym (encode_ascii x (omega (arith, is, ascii)))))) ∙ ap Some (sym is)

pub stop_first : (after : List ℕ) (b other : ℕ) → IsUtf8 after → 1 ≤ length after → b ≡ get_or after 0 other → b < 128 → IsStop after b
stop_first after b other utf8 some is ascii = record {
  ascii = ascii;
  is = λ c solid same. (let both : Some c ≡ Some b = same ∙ stop_is after b other utf8 some is ascii in cc);
}

-- what the field prints

uncut : (precision : ℕ) (text : List ℕ) → length text ≤ precision → cut_to precision text ≡ text
uncut precision text le =
    let top : floor_char_boundary text (min precision (length text)) ≡ length text = cut_is text (length text) precision (IsCharBoundary-end text) le (λ k more _ at. omega (arith, more, at.0)) in
    ap (λ n. take n text) top ∙ take_all (length text) text (omega arith)

unfilled_by : (left : Bool) (word : List ℕ) (room : ℕ) → room ≡ 0 → (if left then word ++ fills room (byte " ") else fills room (byte " ") ++ word) ≡ word
unfilled_by true word room e = rw e (append-nil word)
unfilled_by false word room e = rw e refl

bare_word : (f : ConversionSpecifier) (precision : ℕ) (text : List ℕ) → number_of f.width ≡ Some 0 → number_of f.precision ≡ Some precision → length text ≤ precision → word_text f text ≡ Ok text
bare_word f precision text width wide few =
    ap (λ (o : Option ℕ). with_number o (λ w. with_number (number_of f.precision) (λ p. Ok (filled_word f (w - length (cut_to p text)) (cut_to p text))))) width
    ∙ ap (λ (o : Option ℕ). with_number o (λ p. Ok (filled_word f (0 - length (cut_to p text)) (cut_to p text)))) wide
    ∙ ap Ok (ap (λ (t : List ℕ). filled_word f (0 - length t) t) (uncut precision text few) ∙ unfilled_by f.left_adj text (0 - length text) (omega arith))

by_string : (conversion : ConversionType) (digits character text : Result (List ℕ) PrintfError) → conversion ≡ String → by_conversion conversion digits character text ≡ text
by_string conversion digits character text is = ap (λ (k : ConversionType). by_conversion k digits character text) is

pub serves_word : (f : ConversionSpecifier) (kind : Kind) (after : List ℕ) (stop precision : ℕ) → kind ≡ WordKind → f.conversion_type ≡ String → number_of f.width ≡ Some 0 → number_of f.precision ≡ Some precision → precision ≡ 2147483647 → IsStop after stop → Serves f kind after (Word stop)
serves_word f kind after stop precision is conversion width wide whole stops =
    subst (λ (k : Kind). Serves f k after (Word stop)) (sym is) (λ (row : List ℕ) (token : Token) shape. record {
      fit = (shape.1.utf8, (shape.1.some, shape.1.few, suits after (token_text row token) stop stops shape.1.utf8 shape.1.bytes));
      text = sym (ap text_or_none (by_string f.conversion_type _ _ (word_text f (token_text row token)) conversion ∙ bare_word f precision (token_text row token) width wide (omega (arith, shape.1.few, whole))));
    })

first_behind : (text : List ℕ) (len : ℕ) → get_or (drop len text) 0 0 ≡ get_or text len 0
first_behind text zero = refl
first_behind [] (suc len) = refl
first_behind (x ∷ text) (suc len) = first_behind text len

-- the word in front, where no character is cut
pub word_taken : (text : List ℕ) (len stop : ℕ) → IsUtf8 text → AllByRecursion (IsWordByte stop) (take len text) → len ≤ length text → ¬ (len ≡ 0) → len ≤ 2147483647
    → (1 ≤ length (take (length text - len) (drop len text)) → get_or (take (length text - len) (drop len text)) 0 0 < 128) → IsTaken (Word stop) text 0 (take (length text - len) (drop len text))
word_taken text len stop utf8 bytes within some few ends =
    let left : take (length text - len) (drop len text) ≡ drop len text = take_rest text len in
    let long : length (take len text) ≡ len = length-take-le len text within in
    let first_left : get_or (drop len text) 0 0 ≡ get_or text len 0 = first_behind text len in
    let boundary : IsCharBoundary text len = (within, λ more wide. absurd (let small : 1 ≤ length (drop len text) → get_or (drop len text) 0 0 < 128 = subst (λ (t : List ℕ). 1 ≤ length t → get_or t 0 0 < 128) left ends in omega (arith, first_left, wide, small (omega (arith, length-drop len text, more))))) in
    record {
      token = take len text;
      whole = sym (take-append-drop len text) ∙ ap (λ (t : List ℕ). take len text ++ t) (sym left);
      shape = (
        refl,
        record {
          some = omega (arith, long, some);
          few = omega (arith, long, few);
          utf8 = IsUtf8-take text len utf8 boundary;
          bytes = bytes;
        },
      );
    }
