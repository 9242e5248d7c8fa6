-- A field has at least its width.
use Rattle.std.proofs.Common.{◌≡◌, ◌≢◌, ◌⊎◌, inl, inr, ℕ, ◌+◌, ◌-◌, ◌/◌, ◌≤◌, List, [], ◌++◌, refl, length, replicate, arith, sym, ◌∙◌, ap, length-append, Bool, true, false, Option, Some, None, Ok}
use Rattle.std.specs.Prelude.{encode_utf8_all, ◌==◌, chars, if◌then◌else◌, not, ◌&&◌, unwrap_or, codes}
use Rattle.std.proofs.lemmas.Bool.Decides.{eqb_tells}
use Rattle.std.proofs.lemmas.List.{length-replicate}
use Rattle.std.proofs.lemmas.Str.{encodes-append, encode_ascii}
use Rattle.padding.specs.Field.{fills}
use Rattle.strfmt.specs.declared.cause.Cause.{Cause}
use Rattle.strfmt.specs.declared.types.Alignment.{Alignment}
use Rattle.strfmt.specs.declared.types.Alignment.TheVariants.{Unspecified, Left, Center, Right, Equal}
use Rattle.strfmt.specs.Fault.{Outcome, unless, first_failure}
use Rattle.strfmt.specs.Field.{shared, sides, laid, padded, cut, Integer, plus_of, prefix_of, digits_of, text_field, text_checks, integer_field, integer_checks}
use Rattle.strfmt.specs.Spec.{Spec, aligned, is_plus}
use Rattle.strfmt.specs.Laws.{HasWidth}

-- n fills are shared out between the sides
shared_sum : (align : Alignment) (n : ℕ) (s : ℕ × ℕ) → shared align n ≡ Some s → s.0 + s.1 ≡ n
shared_sum Unspecified n s h = let e : (0, n) ≡ s = cc in omega (arith, ap (λ (p : ℕ × ℕ). p.0 + p.1) e)
shared_sum Left n s h = let e : (0, n) ≡ s = cc in omega (arith, ap (λ (p : ℕ × ℕ). p.0 + p.1) e)
shared_sum Right n s h = let e : (n, 0) ≡ s = cc in omega (arith, ap (λ (p : ℕ × ℕ). p.0 + p.1) e)
shared_sum Center n s h = let e : (n / 2, n - n / 2) ≡ s = cc in omega (arith, ap (λ (p : ℕ × ℕ). p.0 + p.1) e)
shared_sum Equal n s h = cc

sides_at : (align : Alignment) (n : ℕ) (s : ℕ × ℕ) → (((n == 0) ≡ true) × (n ≡ 0)) ⊎ (((n == 0) ≡ false) × (n ≢ 0)) → sides align n ≡ Some s → n ≤ s.0 + s.1
sides_at align n s (inl z) h = omega (arith, z.1)
sides_at align n s (inr z) h = omega (arith, shared_sum align n s (rw z.0 at h))

-- a front is ASCII where its characters are its bytes
abbrev Ascii : List ℕ → Type 0
Ascii text = encode_utf8_all text ≡ text

whole : (front cs : List ℕ) (l r fill : ℕ) → Ascii front → front ++ fills l fill ++ encode_utf8_all cs ++ fills r fill ≡ encode_utf8_all (front ++ replicate l fill ++ cs ++ replicate r fill)
whole front cs l r fill a =
    let one : encode_utf8_all (front ++ replicate l fill) ≡ front ++ fills l fill = encodes-append front (replicate l fill) ∙ ap (λ (bs : List ℕ). bs ++ fills l fill) a in
    let two : encode_utf8_all (front ++ replicate l fill ++ cs) ≡ front ++ fills l fill ++ encode_utf8_all cs =
    encodes-append (front ++ replicate l fill) cs ∙ ap (λ (bs : List ℕ). bs ++ encode_utf8_all cs) one in
    sym (encodes-append (front ++ replicate l fill ++ cs) (replicate r fill) ∙ ap (λ (bs : List ℕ). bs ++ fills r fill) two)

laid_width : (spec : Spec) (front cs : List ℕ) (s : Option (ℕ × ℕ)) (field : List ℕ) → Ascii front → sides spec.align (unwrap_or spec.width 0 - length cs) ≡ s → laid front s spec.fill cs ≡ Ok field → HasWidth spec field
laid_width spec front cs None field a e h = cc
laid_width spec front cs (Some s) field a e h =
    let text : front ++ fills s.0 spec.fill ++ encode_utf8_all cs ++ fills s.1 spec.fill ≡ field = cc in
    let n : ℕ = unwrap_or spec.width 0 - length cs in
    let enough : n ≤ s.0 + s.1 = sides_at spec.align n s (eqb_tells n 0) e in
    let l : List ℕ = replicate s.0 spec.fill in
    let r : List ℕ = replicate s.1 spec.fill in (
      front ++ l ++ cs ++ r,
      sym text ∙ whole front cs s.0 s.1 spec.fill a,
      omega (
        arith,
        enough,
        length-append (front ++ l ++ cs) r,
        length-append (front ++ l) cs,
        length-append front l,
        length-replicate s.0 spec.fill,
        length-replicate s.1 spec.fill,
      ),
    )

padded_width : (spec : Spec) (front cs field : List ℕ) → Ascii front → padded spec front cs ≡ Ok field → HasWidth spec field
padded_width spec front cs field a h = laid_width spec front cs (sides spec.align (unwrap_or spec.width 0 - length cs)) field a refl h

unless_width : (spec : Spec) (cause : Option Cause) (outcome : Outcome) (field : List ℕ) → ((text : List ℕ) → outcome ≡ Ok text → HasWidth spec text) → unless cause outcome ≡ Ok field → HasWidth spec field
unless_width spec None outcome field wide h = wide field h
unless_width spec (Some cause) outcome field wide h = cc

pub text_width : (spec : Spec) (text field : List ℕ) → text_field spec text ≡ Ok field → HasWidth spec field
text_width spec text field h =
    unless_width spec (first_failure (text_checks spec)) (padded (aligned Left spec) [] (cut spec.precision (chars text))) field
    (λ out e. padded_width (aligned Left spec) [] (cut spec.precision (chars text)) out refl e) h

plus_ascii : (plus : Bool) → Ascii (if plus then codes "+" else [])
plus_ascii true = rw (encode_ascii 43 (omega arith)) refl
plus_ascii false = refl

letter_ascii : (b o : Bool) → Ascii (if b then codes "0b" else (if o then codes "0o" else codes "0x"))
letter_ascii true o = rw (encode_ascii 48 (omega arith), encode_ascii 98 (omega arith)) refl
letter_ascii false true = rw (encode_ascii 48 (omega arith), encode_ascii 111 (omega arith)) refl
letter_ascii false false = rw (encode_ascii 48 (omega arith), encode_ascii 120 (omega arith)) refl

prefix_ascii : (alternate : Bool) (ty : Option ℕ) → Ascii (prefix_of alternate ty)
prefix_ascii false ty = refl
prefix_ascii true ty = letter_ascii (unwrap_or ty 0 == 98) (unwrap_or ty 0 == 111)

front_ascii : (a b : List ℕ) → Ascii a → Ascii b → Ascii (a ++ b)
front_ascii a b p q = encodes-append a b ∙ ap (λ (bs : List ℕ). bs ++ encode_utf8_all b) p ∙ ap (λ (bs : List ℕ). a ++ bs) q

pub integer_width : (spec : Spec) (it : Integer) (field : List ℕ) → integer_field spec it ≡ Ok field → HasWidth spec field
integer_width spec it field h =
    let given = aligned Right spec in
    let front : List ℕ = plus_of given.sign it ++ prefix_of given.alternate given.ty in
    let digits : List ℕ = chars (digits_of given.ty it) in
    unless_width spec (first_failure (integer_checks given)) (padded given front digits) field
    (λ out e. padded_width given front digits out
    (front_ascii (plus_of given.sign it) (prefix_of given.alternate given.ty) (plus_ascii (is_plus spec.sign && not it.negative)) (prefix_ascii spec.alternate spec.ty)) e) h
