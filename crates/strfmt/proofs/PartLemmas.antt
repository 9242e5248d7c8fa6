-- Each text is written by parts in one way.
use Rattle.std.proofs.Common.{◌≡◌, ◌≢◌, ◌⊎◌, inl, inr, ℕ, ◌<◌, List, [], ◌∷◌, ◌++◌, Option, Some, None, true, false, Bool, refl, length, arith, sym, ◌∙◌, ap, length-append}
use Rattle.std.specs.Prelude.{◌&&◌, slice_index, encode_utf8, encode_utf8_all, IsUtf8, eqb}
use Rattle.std.specs.Char.{is_ascii_digit}
use Rattle.std.specs.Str.{all_ascii_digits}
use Rattle.std.proofs.lemmas.Bool.Decides.{eqb_tells}
use Rattle.std.proofs.lemmas.Str.{encode_same, length-le-encodes}
use Rattle.strfmt.specs.declared.types.Alignment.{Alignment}
use Rattle.strfmt.specs.declared.types.Sign.{Sign}
use Rattle.strfmt.specs.Grammar.Parts.{alignment_of, sign_of, IsMark, IsFlag, HasNoFill, IsFilled, IsZero, number_of, IsNumber, IsPrecision, Parts, IsWritten}

-- One value and one rest.
abbrev Same : {A : Type 0} → A → A → List ℕ → List ℕ → Type 0
Same x y r s = (x ≡ y) × (r ≡ s)

-- a mark that is there and one that isn't
no_mark : {A : Type 0} (meaning : ℕ → Option A) (t t' s : List ℕ) (y : A) → t ≡ t' → meaning (slice_index t 0) ≡ None → IsMark meaning t' (Some y) s → ⊥
no_mark meaning t t' s y e n b =
    let first : slice_index t 0 ≡ b.0 = ap (λ (bs : List ℕ). slice_index bs 0) (e ∙ b.2) in
    let h : None ≡ Some y = sym n ∙ ap meaning first ∙ b.1 in
    cc

mark_once : {A : Type 0} (meaning : ℕ → Option A) (t t' r s : List ℕ) (x y : Option A) → t ≡ t' → IsMark meaning t x r → IsMark meaning t' y s → Same x y r s
mark_once meaning t t' r s None None e a b = (refl, sym a.1 ∙ e ∙ b.1)
mark_once meaning t t' r s None (Some y) e a b = absurd (no_mark meaning t t' s y e a.0 b)
mark_once meaning t t' r s (Some x) None e a b = absurd (no_mark meaning t' t r x (sym e) b.0 a)
mark_once meaning t t' r s (Some x) (Some y) e a b =
    let h : a.0 ∷ r ≡ b.0 ∷ s = sym a.2 ∙ e ∙ b.2 in
    let first : a.0 ≡ b.0 = cc in
    (sym a.1 ∙ ap meaning first ∙ b.1, cc)

flag_once : (c : ℕ) (t t' r s : List ℕ) (x y : Bool) → t ≡ t' → IsFlag c t x r → IsFlag c t' y s → Same x y r s
flag_once c t t' r s true true e a b =
    let h : c ∷ r ≡ c ∷ s = sym a ∙ e ∙ b in
    (refl, cc)
flag_once c t t' r s false false e a b = (refl, sym a.1 ∙ e ∙ b.1)
flag_once c t t' r s true false e a b = absurd (b.0 (ap (λ (bs : List ℕ). slice_index bs 0) (sym e ∙ a)))
flag_once c t t' r s false true e a b = absurd (a.0 (ap (λ (bs : List ℕ). slice_index bs 0) (e ∙ b)))

-- a fill that is there and one that isn't
no_fill : (t t' s : List ℕ) (c : ℕ) (align : Option Alignment) → t ≡ t' → HasNoFill t → IsFilled t' (Some c) align s → ⊥
no_fill t t' s c None e n b = b.2 refl
no_fill t t' s c (Some align) e n b = no_mark alignment_of b.0 b.0 s align refl (n c b.0 (e ∙ b.1)) b.3

filled_once : (t t' r s : List ℕ) (c d : Option ℕ) (x y : Option Alignment) → t ≡ t' → IsFilled t c x r → IsFilled t' d y s → (c ≡ d) × (x ≡ y) × (r ≡ s)
filled_once t t' r s None None x y e a b = let it = mark_once alignment_of t t' r s x y e a.1 b.1 in (refl, it.0, it.1)
filled_once t t' r s (Some c) (Some d) x y e a b =
    let same = encode_same c d a.0 b.0 (sym a.1 ∙ e ∙ b.1) in
    let it = mark_once alignment_of a.0 b.0 r s x y same.1 a.3 b.3 in
    (ap (λ (n : ℕ). Some n) same.0, it.0, it.1)
filled_once t t' r s None (Some d) x y e a b = absurd (no_fill t t' s d y e a.0 b)
filled_once t t' r s (Some c) None x y e a b = absurd (no_fill t' t r c x (sym e) b.0 a)

zero_once : (c d : Option ℕ) (t t' r s : List ℕ) (x y : Bool) → c ≡ d → t ≡ t' → IsZero c t x r → IsZero d t' y s → Same x y r s
zero_once None None t t' r s x y k e a b = flag_once 48 t t' r s x y e a b
zero_once (Some c) (Some d) t t' r s x y k e a b = (a.0 ∙ sym b.0, sym a.1 ∙ e ∙ b.1)
zero_once None (Some d) t t' r s x y k e a b = cc
zero_once (Some c) None t t' r s x y k e a b = cc

-- the first of some digits is one
digit_first : (c : ℕ) (cs : List ℕ) → all_ascii_digits (c ∷ cs) ≡ true → (is_ascii_digit c ≡ true) × (all_ascii_digits cs ≡ true)
digit_first c cs h = go (is_ascii_digit c) h where
  go : (x : Bool) → (x && all_ascii_digits cs) ≡ true → (x ≡ true) × (all_ascii_digits cs ≡ true)
  go true h = (refl, h)
  go false h = cc

both_digit : (b c : ℕ) → b ≡ c → is_ascii_digit b ≡ false → is_ascii_digit c ≡ true → ⊥
both_digit b c e h k = let z : false ≡ true = sym h ∙ ap is_ascii_digit e ∙ k in cc

digits_once : (ds es r s : List ℕ) → all_ascii_digits ds ≡ true → all_ascii_digits es ≡ true → is_ascii_digit (slice_index r 0) ≡ false → is_ascii_digit (slice_index s 0) ≡ false
    → ds ++ r ≡ es ++ s → Same ds es r s
digits_once [] [] r s d e h k q = (refl, q)
digits_once [] (c ∷ cs) r s d e h k q = absurd (both_digit (slice_index r 0) c (ap (λ (bs : List ℕ). slice_index bs 0) q) h (digit_first c cs e).0)
digits_once (b ∷ bs) [] r s d e h k q = absurd (both_digit (slice_index s 0) b (ap (λ (bs : List ℕ). slice_index bs 0) (sym q)) k (digit_first b bs d).0)
digits_once (b ∷ bs) (c ∷ cs) r s d e h k q =
    let first : b ≡ c = cc in
    let tails : bs ++ r ≡ cs ++ s = cc in
    let it = digits_once bs cs r s (digit_first b bs d).1 (digit_first c cs e).1 h k tails in
    (ap (λ (x : ℕ). x ∷ bs) first ∙ ap (λ (xs : List ℕ). c ∷ xs) it.0, it.1)

number_once : (t t' r s : List ℕ) (x y : Option ℕ) → t ≡ t' → IsNumber t x r → IsNumber t' y s → Same x y r s
number_once t t' r s x y e a b =
    let it = digits_once a.0 b.0 r s a.1 b.1 a.2 b.2 (sym a.4 ∙ e ∙ b.4) in
    (a.3 ∙ ap number_of it.0 ∙ sym b.3, it.1)

precision_once : (c d : Bool) (t t' r s : List ℕ) (x y : Option ℕ) → c ≡ d → t ≡ t' → IsPrecision c t x r → IsPrecision d t' y s → Same x y r s
precision_once true true t t' r s x y k e a b = number_once t t' r s x y e a b
precision_once false false t t' r s x y k e a b = (a.0 ∙ sym b.0, sym a.1 ∙ e ∙ b.1)
precision_once true false t t' r s x y k e a b = cc
precision_once false true t t' r s x y k e a b = cc

pub written_once : (text : List ℕ) (p q : Parts) → IsWritten text p → IsWritten text q → p ≡ q
written_once text p q a b =
    let filled = filled_once text text _ _ p.fill q.fill p.align q.align refl a.7 b.7 in
    let sign = mark_once sign_of _ _ _ _ p.sign q.sign filled.2 a.8 b.8 in
    let alternate = flag_once 35 _ _ _ _ p.alternate q.alternate sign.1 a.9 b.9 in
    let zero = zero_once p.fill q.fill _ _ _ _ p.zero q.zero filled.0 alternate.1 a.10 b.10 in
    let width = number_once _ _ _ _ p.width q.width zero.1 a.11 b.11 in
    let thousands = flag_once 44 _ _ _ _ p.thousands q.thousands width.1 a.12 b.12 in
    let dot = flag_once 46 _ _ _ _ p.dot q.dot thousands.1 a.13 b.13 in
    let precision = precision_once p.dot q.dot _ _ p.left q.left p.precision q.precision dot.0 dot.1 a.14 b.14 in
    let p2 : Parts = record p { fill = q.fill; align = q.align } in
    let p4 : Parts = record p2 { sign = q.sign; alternate = q.alternate } in
    let p6 : Parts = record p4 { zero = q.zero; width = q.width } in
    let p8 : Parts = record p6 { thousands = q.thousands; dot = q.dot } in
    ap (λ (v : Option ℕ). record p { fill = v }) filled.0 ∙ ap (λ (v : Option Alignment). record p { fill = q.fill; align = v }) filled.1
    ∙ ap (λ (v : Option Sign). record p2 { sign = v }) sign.0 ∙ ap (λ (v : Bool). record p2 { sign = q.sign; alternate = v }) alternate.0
    ∙ ap (λ (v : Bool). record p4 { zero = v }) zero.0 ∙ ap (λ (v : Option ℕ). record p4 { zero = q.zero; width = v }) width.0
    ∙ ap (λ (v : Bool). record p6 { thousands = v }) thousands.0 ∙ ap (λ (v : Bool). record p6 { thousands = q.thousands; dot = v }) dot.0
    ∙ ap (λ (v : Option ℕ). record p8 { precision = v }) precision.0 ∙ ap (λ (v : List ℕ). record p8 { precision = q.precision; left = v }) precision.1

-- Each part is there or not.
mark_or_not : {A : Type 0} (meaning : ℕ → Option A) (text : List ℕ) → meaning 0 ≡ None → (x : Option A) × (rest : List ℕ) × IsMark meaning text x rest
mark_or_not meaning [] h = (None, [], (h, refl))
mark_or_not {A} meaning (b ∷ bs) h = go (meaning b) refl where
  go : (x : Option A) → meaning b ≡ x → (y : Option A) × (rest : List ℕ) × IsMark meaning (b ∷ bs) y rest
  go None e = (None, b ∷ bs, (e, refl))
  go (Some x) e = (Some x, bs, (b, e, refl))

flag_at : (c b : ℕ) (bs : List ℕ) → ((eqb b c ≡ true) × (b ≡ c)) ⊎ ((eqb b c ≡ false) × (b ≢ c)) → (x : Bool) × (rest : List ℕ) × IsFlag c (b ∷ bs) x rest
flag_at c b bs (inl e) = (true, bs, ap (λ (x : ℕ). x ∷ bs) e.1)
flag_at c b bs (inr n) = (false, b ∷ bs, (n.1, refl))

flag_or_not : (c : ℕ) (text : List ℕ) → 0 < c → (x : Bool) × (rest : List ℕ) × IsFlag c text x rest
flag_or_not c [] h = (false, [], ((λ e. absurd (omega (arith, h, e))), refl))
flag_or_not c (b ∷ bs) h = flag_at c b bs (eqb_tells b c)

zero_or_not : (fill : Option ℕ) (text : List ℕ) → (x : Bool) × (rest : List ℕ) × IsZero fill text x rest
zero_or_not None text = flag_or_not 48 text (omega arith)
zero_or_not (Some c) text = (false, text, (refl, refl))

-- As many digits as there are.
record Digits (text : List ℕ) : Type 0 where
  digits : List ℕ
  rest : List ℕ
  all : all_ascii_digits digits ≡ true
  longest : is_ascii_digit (slice_index rest 0) ≡ false
  whole : text ≡ digits ++ rest

digits_at : (b : ℕ) (bs : List ℕ) (x : Bool) → is_ascii_digit b ≡ x → Digits bs → Digits (b ∷ bs)
digits_at b bs true h d = record { digits = b ∷ d.digits; rest = d.rest; all = rw h d.all; longest = d.longest; whole = ap (λ (xs : List ℕ). b ∷ xs) d.whole }
digits_at b bs false h d = record { digits = []; rest = b ∷ bs; all = refl; longest = h; whole = refl }

digits_in : (text : List ℕ) → Digits text
digits_in [] = record { digits = []; rest = []; all = refl; longest = refl; whole = refl }
digits_in (b ∷ bs) = digits_at b bs (is_ascii_digit b) refl (digits_in bs)

number_in : (text : List ℕ) → (x : Option ℕ) × (rest : List ℕ) × IsNumber text x rest
number_in text = let d = digits_in text in (number_of d.digits, d.rest, (d.digits, d.all, d.longest, refl, d.whole))

precision_in : (dot : Bool) (text : List ℕ) → (x : Option ℕ) × (rest : List ℕ) × IsPrecision dot text x rest
precision_in true text = number_in text
precision_in false text = (None, text, (refl, refl))

-- a character in front, with what stands after it
no_fill_after : (text after : List ℕ) (c : ℕ) → text ≡ encode_utf8 c ++ after → alignment_of (slice_index after 0) ≡ None → HasNoFill text
no_fill_after text after c e n d other k =
    let same = encode_same c d after other (sym e ∙ k) in
    ap (λ (bs : List ℕ). alignment_of (slice_index bs 0)) (sym same.1) ∙ n

pub no_fill_at : (text after rest : List ℕ) (c : ℕ) → text ≡ encode_utf8 c ++ after → IsMark alignment_of after None rest → HasNoFill text
no_fill_at text after rest c e m = no_fill_after text after c e m.0

abbrev FillsOrNot : List ℕ → Type 0
FillsOrNot text = (c : Option ℕ) × (x : Option Alignment) × (rest : List ℕ) × IsFilled text c x rest

filled_at : (text after rest : List ℕ) (c : ℕ) (align : Option Alignment) → text ≡ encode_utf8 c ++ after → IsMark alignment_of after align rest → FillsOrNot text
filled_at text after rest c (Some align) e m = (Some c, Some align, rest, (after, e, (λ z. cc), m))
filled_at text after rest c None e m =
    let alone = mark_or_not alignment_of text refl in
    (None, alone.0, alone.1, (no_fill_at text after rest c e m, alone.2))

nothing : (c : ℕ) (after : List ℕ) → [] ≡ encode_utf8 c ++ after → ⊥
nothing c after e = absurd (omega (arith, ap length e, length-le-encodes (c ∷ []), length-append (encode_utf8 c) [], length-append (encode_utf8 c) after))

pub no_fill_in_none : (text : List ℕ) → length text ≡ 0 → HasNoFill text
no_fill_in_none [] h c after e = absurd (nothing c after e)
no_fill_in_none (b ∷ bs) h c after e = absurd (omega (arith, h))

filled_chars : (cs text : List ℕ) → encode_utf8_all cs ≡ text → FillsOrNot text
filled_chars [] text e = (None, None, text, (no_fill_in_none text (ap length (sym e)), (ap (λ (bs : List ℕ). alignment_of (slice_index bs 0)) (sym e), refl)))
filled_chars (c ∷ cs) text e =
    let m = mark_or_not alignment_of (encode_utf8_all cs) refl in
    filled_at text (encode_utf8_all cs) m.1 c m.0 (sym e) m.2

-- Each text of characters is written by some parts.
pub written_some : (text : List ℕ) → IsUtf8 text → (parts : Parts) × IsWritten text parts
written_some text u =
    let filled = filled_chars u.0 text u.1.1 in
    let sign = mark_or_not sign_of filled.2 refl in
    let alternate = flag_or_not 35 sign.1 (omega arith) in
    let zero = zero_or_not filled.0 alternate.1 in
    let width = number_in zero.1 in
    let thousands = flag_or_not 44 width.1 (omega arith) in
    let dot = flag_or_not 46 thousands.1 (omega arith) in
    let precision = precision_in dot.0 dot.1 in
    let parts : Parts = record {
      fill = filled.0;
      align = filled.1;
      sign = sign.0;
      alternate = alternate.0;
      zero = zero.0;
      width = width.0;
      thousands = thousands.0;
      dot = dot.0;
      precision = precision.0;
      left = precision.1;
    } in
    (parts, (filled.2, sign.1, alternate.1, zero.1, width.1, thousands.1, dot.1, filled.3, sign.2, alternate.2, zero.2, width.2, thousands.2, dot.2, precision.2))
