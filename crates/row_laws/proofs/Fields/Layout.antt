-- A number's text: spaces, sign or prefix, zeros, digits, spaces.
use Rattle.std.proofs.Common.{◌≡◌, ◌⊎◌, ◌<◌, ◌≤◌, ◌+◌, ◌-◌, ℕ, zero, suc, Bool, true, false, cond, List, [], ◌∷◌, ◌++◌, length, replicate, Option, sym, ap, refl, ◌∙◌, arith, append_assoc, append-nil, length-append, encode_utf8_all}
use Rattle.std.specs.Str.Parse.{AllDigits}
use Rattle.std.proofs.lemmas.List.{length-replicate}
use Rattle.sprintf.specs.declared.parser.ConversionType.{ConversionType}
use Rattle.scan_fmt.specs.Grammar.{Shape}
use Rattle.scan_fmt.specs.Scanned.{MayTake, IsLongest, token_text}
use Rattle.values.specs.declared.kind.Kind.{Kind}
use Rattle.values.specs.Datum.{Datum}
use Rattle.row_format.specs.Fit.{Takes}
use Rattle.row_format.specs.Row.{Reads}
use Rattle.row_laws.proofs.Fields.Spaces.{AllPlain, each_append, plain_solid, plain_utf8, plain_chars, fills_are, Laid}
use Rattle.row_laws.proofs.Fields.Longest.{EndsTaken}
use Rattle.row_laws.proofs.Fields.Digits.{digits_plain}
use Rattle.row_laws.proofs.Fields.Shown.{Standing}

-- the text of a number's field, by its flags
abbrev pub filled : Bool → Bool → ℕ → List ℕ → List ℕ → List ℕ
filled left pads room lead digits = cond left (lead ++ digits ++ encode_utf8_all (replicate room 32)) (cond pads (lead ++ encode_utf8_all (replicate room 48) ++ digits) (encode_utf8_all (replicate room 32) ++ lead ++ digits))

-- a prefix, where there is one
abbrev pub when : Bool → List ℕ → List ℕ
when alt prefix = cond alt prefix []

record Layout (left pads : Bool) (room : ℕ) (lead digits text : List ℕ) : Type 0 where
  before : ℕ
  zeros : ℕ
  after : ℕ
  whole : text ≡ replicate before 32 ++ ((lead ++ (replicate zeros 48 ++ digits)) ++ replicate after 32)
  padded : pads ≡ true → left ≡ false → zeros ≡ room

layout : (left pads : Bool) (room : ℕ) (lead digits : List ℕ) → Layout left pads room lead digits (filled left pads room lead digits)
layout true pads room lead digits = record {
  before = 0;
  zeros = 0;
  after = room;
  whole = ap (λ (x : List ℕ). (lead ++ digits) ++ x) (fills_are room 32 (omega arith));
  padded = λ _ e. absurd (cc);
}
layout false true room lead digits = record {
  before = 0;
  zeros = room;
  after = 0;
  whole = ap (λ (x : List ℕ). (lead ++ x) ++ digits) (fills_are room 48 (omega arith)) ∙ append_assoc lead (replicate room 48) digits ∙ sym (append-nil (lead ++ (replicate room 48 ++ digits)));
  padded = λ _ _. refl;
}
layout false false room lead digits = record {
  before = room;
  zeros = 0;
  after = 0;
  whole = ap (λ (x : List ℕ). (x ++ lead) ++ digits) (fills_are room 32 (omega arith)) ∙ append_assoc (replicate room 32) lead digits ∙ ap (λ (x : List ℕ). replicate room 32 ++ x) (sym (append-nil (lead ++ digits)));
  padded = λ e. absurd (cc);
}

more_spaces : (a s : ℕ) → replicate {A = ℕ} (a + s) 32 ≡ replicate a 32 ++ replicate s 32
more_spaces zero s = let e : 0 + s ≡ s = omega arith in ap (λ n. replicate {A = ℕ} n 32) e
more_spaces (suc a) s = let e : suc a + s ≡ suc (a + s) = omega arith in ap (λ n. replicate {A = ℕ} n 32) e ∙ ap (λ (x : List ℕ). 32 ∷ x) (more_spaces a s)

regroup : (a s f m d r : List ℕ) → a ++ (((s ++ (f ++ m)) ++ d) ++ r) ≡ (a ++ s) ++ ((f ++ (m ++ d)) ++ r)
regroup a s f m d r = simp append_assoc

-- what is asked of a number's parts: the front, what is taken with the digits, and the digits, however many zeros stand before them
pub record Parts (S P : List ℕ → Type 0) (front mid digits : List ℕ) : Type 0 where
  pub front_plain : AllPlain front
  pub mid_plain : AllPlain mid
  pub each : (z : ℕ) → AllDigits 16 (replicate z 48 ++ digits)
  pub some : 0 < length digits
  pub shape : (z : ℕ) → S (mid ++ (replicate z 48 ++ digits))
  pub reads : (z : ℕ) → P (mid ++ (replicate z 48 ++ digits))

-- what an exact field has: zeros up to its width, and no space
pub record Full (left pads : Bool) (s n width : ℕ) : Type 0 where
  pub zeros : pads ≡ true
  pub right : left ≡ false
  pub no_space : s ≡ 0
  pub fits : n ≤ width

parts_length : (z : ℕ) (mid digits : List ℕ) → length (mid ++ (replicate z 48 ++ digits)) ≡ length mid + (z + length digits)
parts_length z mid digits = simp (length-append, length-replicate) refl

lead_length : (s : ℕ) (front mid : List ℕ) → length (replicate s 32 ++ (front ++ mid)) ≡ s + (length front + length mid)
lead_length s front mid = simp (length-append, length-replicate) refl

module _ (s : ℕ) (front mid digits : List ℕ) (S P : List ℕ → Type 0) (parts : Parts S P front mid digits) where
  number_laid : (left pads : Bool) (room : ℕ) (text : List ℕ) (l : Layout left pads room (replicate s 32 ++ (front ++ mid)) digits text) → Laid front (mid ++ (replicate l.zeros 48 ++ digits)) text
  number_laid left pads room text l =
      let taken : List ℕ = mid ++ (replicate l.zeros 48 ++ digits) in
      let plain : AllPlain (front ++ taken) = each_append _ front taken parts.front_plain (each_append _ mid _ parts.mid_plain (digits_plain 16 _ (omega arith) (parts.each l.zeros))) in
      record {
        before = l.before + s;
        token = front ++ taken;
        after = l.after;
        whole = l.whole ∙ regroup (replicate l.before 32) (replicate s 32) front mid (replicate l.zeros 48 ++ digits) (replicate l.after 32) ∙ ap (λ (x : List ℕ). x ++ ((front ++ taken) ++ replicate l.after 32)) (sym (more_spaces l.before s));
        utf8 = plain_utf8 (front ++ taken) plain;
        spelled = plain_chars (front ++ taken) plain;
        solid = plain_solid (front ++ taken) plain;
        some = omega (arith, length-append front taken, parts_length l.zeros mid digits, parts.some);
      }

  -- what is taken of an exact field has just the width, but for the front
  full_length : (left pads : Bool) (width : ℕ) (text : List ℕ) (l : Layout left pads (width - (length (replicate s 32 ++ (front ++ mid)) + length digits)) (replicate s 32 ++ (front ++ mid)) digits text)
      → Full left pads s (length front + length mid + length digits) width → length (mid ++ (replicate l.zeros 48 ++ digits)) ≡ width - length front
  full_length left pads width text l full =
      let z : l.zeros ≡ width - (length (replicate s 32 ++ (front ++ mid)) + length digits) = l.padded full.zeros full.right in
      omega (arith, z, parts_length l.zeros mid digits, lead_length s front mid, full.no_space, full.fits)

pub number_standing : (v : ConversionType) (kind : Kind) (value : Datum) (exact : Bool) (end : Option ℕ) (shape : Shape) (S : List ℕ → Type 0) (left pads : Bool) (width limit s : ℕ) (front mid digits : List ℕ)
    → Parts S (λ t. Reads v kind (token_text shape t) value) front mid digits
    → ((taken rest : List ℕ) → 0 < length taken → S taken → (exact ≡ true → length taken ≡ limit) → (exact ≡ true) ⊎ EndsTaken (Takes v end) rest → IsLongest (MayTake shape) (taken ++ rest) taken rest)
    → (exact ≡ true → Full left pads s (length front + length mid + length digits) width) → limit ≡ width - length front
    → Standing v kind value exact end front shape (filled left pads (width - (length (replicate s 32 ++ (front ++ mid)) + length digits)) (replicate s 32 ++ (front ++ mid)) digits)
number_standing v kind value exact end shape S left pads width limit s front mid digits parts longest full is_limit =
    let P : List ℕ → Type 0 = λ t. Reads v kind (token_text shape t) value in
    let room : ℕ = width - (length (replicate s 32 ++ (front ++ mid)) + length digits) in
    let l = layout left pads room (replicate s 32 ++ (front ++ mid)) digits in
    let text : List ℕ = filled left pads room (replicate s 32 ++ (front ++ mid)) digits in
    record {
      taken = mid ++ (replicate l.zeros 48 ++ digits);
      laid = number_laid s front mid digits S P parts left pads room text l;
      longest = λ rest ends. longest (mid ++ (replicate l.zeros 48 ++ digits)) rest (omega (arith, parts_length l.zeros mid digits, parts.some)) (parts.shape l.zeros)
          (λ e. full_length s front mid digits S P parts left pads width text l (full e) ∙ sym is_limit) ends;
      reads = parts.reads l.zeros;
    }
