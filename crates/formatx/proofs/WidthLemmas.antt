-- A field has at least its width in characters.
use Rattle.std.proofs.Common.{◌≡◌, ℕ, zero, suc, ◌+◌, ◌<◌, ◌≤◌, Bool, true, false, cond, ◌||◌, eqb, List, [], ◌∷◌, ◌++◌, length, take, drop, get_or, Option, Some, None, IfSome, is_some, refl, arith, ap, ◌∙◌, unwrap_or}
use Rattle.std.specs.Prelude.{replicate}
use Rattle.std.specs.Str.{IsUtf8, all_scalars, chars}
use Rattle.std.specs.Char.{IsScalar, encode_utf8}
use Rattle.std.proofs.lemmas.Bool.Decides.{nat_tests}
use Rattle.std.proofs.lemmas.List.{length-append}
use Rattle.std.proofs.lemmas.Str.{chars-append, chars-encodes, scalars-chars, IsUtf8-append, IsUtf8-drop, IsCharBoundary-after_ascii}
use Rattle.padding.specs.Field.{fills}
use Rattle.formatx.specs.Field.{Body, aligned, body_of, by_shape, cut, gap_of, laid_out, number_body, padding_of, sign_text, shaped}
use Rattle.formatx.specs.Laws.{FieldsAreWide}
use Rattle.formatx.specs.declared.ast.FormatSpec.{FormatSpec}
use Rattle.formatx.specs.declared.ast.Align.{Align}
use Rattle.formatx.specs.declared.ast.Align.TheVariants.{Left, Center, Right}
use Rattle.formatx.specs.declared.ast.Sign.{Sign}
use Rattle.formatx.specs.declared.ast.Sign.TheVariants.{Plus, Minus}
use Rattle.formatx.specs.declared.format.Padding.{Padding}
use Rattle.formatx.specs.declared.value.Shape.{Shape}
use Rattle.formatx.specs.declared.value.Shape.TheVariants.{Integer, Text, Raw}

-- a padding fills the gap
abbrev Fills : Padding → ℕ → Type 0
Fills p gap = p.left + p.zeros + p.right ≡ gap

aligned-Fills : (align : Option Align) (gap : ℕ) → Fills (aligned align gap) gap
aligned-Fills (Some Left) gap = omega arith
aligned-Fills (Some Center) gap = omega arith
aligned-Fills (Some Right) gap = omega arith
aligned-Fills None gap = omega arith

by_shape-Fills : (shape : Shape) (zero_pad : Bool) (gap : ℕ) → ¬ (shape ≡ Raw) → Fills (by_shape shape zero_pad gap) gap
by_shape-Fills Integer true gap h = omega arith
by_shape-Fills Integer false gap h = omega arith
by_shape-Fills Text zero_pad gap h = omega arith
by_shape-Fills Raw zero_pad gap h = absurd (h refl)

padding-Fills : (spec : FormatSpec) (shape : Shape) (gap : ℕ) → ¬ (shape ≡ Raw) → Fills (padding_of spec shape gap) gap
padding-Fills spec shape gap h =
    elim (is_some spec.fill || is_some spec.align) as (λ b. Fills (cond b (aligned spec.align gap) (by_shape shape spec.zero_pad gap)) gap)
    [ true ↦ aligned-Fills spec.align gap | false ↦ by_shape-Fills shape spec.zero_pad gap h ]

-- copies of a character are as many characters
scalars-replicate : (n c : ℕ) → IsScalar c → all_scalars (replicate n c) ≡ true
scalars-replicate zero c h = refl
scalars-replicate (suc n) c h = rw (h, scalars-replicate n c h) refl

length-replicate : (n c : ℕ) → length (replicate n c) ≡ n
length-replicate zero c = refl
length-replicate (suc n) c = ap suc (length-replicate n c)

fills-IsUtf8 : (n c : ℕ) → IsScalar c → IsUtf8 (fills n c)
fills-IsUtf8 n c h = (replicate n c, (scalars-replicate n c h, refl))

fills-length : (n c : ℕ) → IsScalar c → length (chars (fills n c)) ≡ n
fills-length n c h = ap length (chars-encodes (replicate n c) (scalars-replicate n c h)) ∙ length-replicate n c

-- a body whose parts are texts, with a sign of ASCII
record IsText (body : Body) : Type 0 where
  sign : IsUtf8 body.sign
  short : length (chars body.sign) ≡ length body.sign
  rest : IsUtf8 body.rest

laid_out-length : (c : ℕ) (p : Padding) (body : Body) → IsScalar c → IsText body → length (chars (laid_out c p body)) ≡ p.left + length body.sign + p.zeros + length (chars body.rest) + p.right
laid_out-length c p body scalar text =
    let zeros : IsScalar 48 = refl in
    let a = fills-IsUtf8 p.left c scalar in
    let z = fills-IsUtf8 p.zeros 48 zeros in
    let ab = IsUtf8-append (fills p.left c) body.sign a text.sign in
    let abz = IsUtf8-append (fills p.left c ++ body.sign) (fills p.zeros 48) ab z in
    let abzr = IsUtf8-append (fills p.left c ++ body.sign ++ fills p.zeros 48) body.rest abz text.rest in
    let e1 = chars-append (fills p.left c ++ body.sign ++ fills p.zeros 48 ++ body.rest) (fills p.right c) abzr in
    let e2 = chars-append (fills p.left c ++ body.sign ++ fills p.zeros 48) body.rest abz in
    let e3 = chars-append (fills p.left c ++ body.sign) (fills p.zeros 48) ab in
    let e4 = chars-append (fills p.left c) body.sign a in
    let l1 = fills-length p.left c scalar in
    let l2 = fills-length p.zeros 48 zeros in
    let l3 = fills-length p.right c scalar in
    let s = text.short in
    rw (e1, e2, e3, e4) (simp length-append (omega arith))

-- a cut text is a text
scalars-take : (n : ℕ) (cs : List ℕ) → all_scalars cs ≡ true → all_scalars (take n cs) ≡ true
scalars-take zero cs h = refl
scalars-take (suc n) [] h = refl
scalars-take (suc n) (c ∷ cs) h = let ih = scalars-take n cs in grind (arith, nat_tests)

cut-IsUtf8 : (precision : Option ℕ) (text : List ℕ) → IsUtf8 text → IsUtf8 (cut precision text)
cut-IsUtf8 (Some n) text h = (take n (chars text), (scalars-take n (chars text) (scalars-chars text h), refl))
cut-IsUtf8 None text h = h

-- the signs
signs-IsText : (sign : Option Sign) (rest : List ℕ) → IsUtf8 rest → IsText (record { sign = sign_text sign; rest = rest })
unfolding chars encode_utf8
signs-IsText (Some Plus) rest h = record { sign = (43 ∷ [], (refl, refl)); short = refl; rest = h }
signs-IsText (Some Minus) rest h = record { sign = ([], (refl, refl)); short = refl; rest = h }
signs-IsText None rest h = record { sign = ([], (refl, refl)); short = refl; rest = h }

minus-IsText : (rest : List ℕ) → IsUtf8 rest → IsText (record { sign = 45 ∷ []; rest = rest })
unfolding chars encode_utf8
minus-IsText rest h = record { sign = (45 ∷ [], (refl, refl)); short = refl; rest = h }

number-IsText : (sign : Option Sign) (text : List ℕ) → IsUtf8 text → IsText (number_body sign text)
number-IsText sign [] h = signs-IsText sign [] h
number-IsText sign (c ∷ cs) h = by_test (eqb c 45) refl
  where
    by_test : (b : Bool) → eqb c 45 ≡ b → IsText (number_body sign (c ∷ cs))
    by_test true e =
        let minus : c ≡ 45 = grind (arith, nat_tests) in
        let ascii : get_or (c ∷ cs) 0 0 < 128 = omega (arith, minus) in
        let inside : 0 < length (c ∷ cs) = omega arith in
        let rest : IsUtf8 (drop 1 (c ∷ cs)) = IsUtf8-drop (c ∷ cs) 1 h (IsCharBoundary-after_ascii (c ∷ cs) 0 h inside ascii) in
        rw e (minus-IsText (drop 1 (c ∷ cs)) rest)
    by_test false e = rw e (signs-IsText sign (c ∷ cs) h)

body-IsText : (shape : Shape) (sign : Option Sign) (precision : Option ℕ) (text : List ℕ) → IsUtf8 text → IsText (body_of shape sign precision text)
body-IsText Integer sign precision text h = number-IsText sign text h
body-IsText Text sign precision text h = signs-IsText None (cut precision text) (cut-IsUtf8 precision text h)
body-IsText Raw sign precision text h = signs-IsText None text h

fill-IsScalar : (fill : Option ℕ) → IfSome fill IsScalar → IsScalar (unwrap_or fill 32)
fill-IsScalar (Some c) h = h
fill-IsScalar None h = refl

shaped-length : (spec : FormatSpec) (shape : Shape) (width : ℕ) (precision : Option ℕ) (text : List ℕ) → IfSome spec.fill IsScalar → IsUtf8 text → ¬ (shape ≡ Raw) → width ≤ length (chars (shaped spec shape (Some width) precision text))
shaped-length spec shape width precision text fill utf8 h =
    let body = body_of shape spec.sign precision text in
    let gap = gap_of (Some width) body in
    let filled = padding-Fills spec shape gap h in
    let long = laid_out-length (unwrap_or spec.fill 32) (padding_of spec shape gap) body (fill-IsScalar spec.fill fill) (body-IsText shape spec.sign precision text utf8) in
    rw long (omega (arith, filled))

pub fields_are_wide : FieldsAreWide
fields_are_wide spec m width precision e fill utf8 h = rw e (shaped-length spec m.display_shape width precision m.display fill utf8 h)
