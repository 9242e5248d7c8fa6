-- Formats, one element after another: how a text goes on behind its first field, and that it has one list of elements.
use Rattle.std.proofs.Common.{◌≡◌, ◌≢◌, ℕ, zero, suc, ◌+◌, ◌<◌, ◌⊎◌, inl, inr, true, false, cond, eqb, List, [], ◌∷◌, ◌++◌, length, get_or, Some, None, refl, sym, ap, ◌∙◌, subst, arith, Bor, All}
use Rattle.std.specs.List.{concat, AllZip, AllByRecursion}
use Rattle.std.proofs.lemmas.Bool.Decides.{nat_tests}
use Rattle.std.proofs.lemmas.List.{append-nil}
use Rattle.std.proofs.Common.{length-append}
use Rattle.sprintf.specs.declared.parser.ConversionSpecifier.{ConversionSpecifier}
use Rattle.sprintf.specs.declared.parser.FormatElement.{FormatElement}
use Rattle.sprintf.specs.declared.parser.FormatElement.TheVariants.{Verbatim, Format}
use Rattle.sprintf.specs.Grammar.{IsField, Spells, AreApart, IsFormat, IsNoFormat}
use Rattle.sprintf.specs.Inner.Reading.{read_field, verbatim}
use Rattle.sprintf.proofs.Complete.{read_field-is, body_of}
use Rattle.sprintf.proofs.Sound.{field_sound, some_parts}

-- ---- a format as a recursion

abbrev pub Spelled : List FormatElement → List ℕ → Type 0
Spelled [] text = text ≡ []
Spelled (e ∷ es) text = (piece : List ℕ) × (rest : List ℕ) × (text ≡ piece ++ rest) × Spells e piece × Spelled es rest

spelled_from : (es : List FormatElement) (text : List ℕ) (pieces : List (List ℕ)) → text ≡ concat pieces → AllZip Spells es pieces → Spelled es text
spelled_from [] text [] e a = e
spelled_from [] text (p ∷ ps) e a = absurd a
spelled_from (x ∷ es) text [] e a = absurd a
spelled_from (x ∷ es) text (p ∷ ps) e a = (p, concat ps, e, a.0, spelled_from es (concat ps) ps refl a.1)

pub spelled_of : (es : List FormatElement) (text : List ℕ) → IsFormat text es → Spelled es text
spelled_of es text k = spelled_from es text k.spellings k.whole k.each

pieces_of : (es : List FormatElement) (text : List ℕ) → Spelled es text → (pieces : List (List ℕ)) × (text ≡ concat pieces) × AllZip Spells es pieces
pieces_of [] text s = ([], s, tt)
pieces_of (e ∷ es) text s = let more = pieces_of es s.1 s.4 in (s.0 ∷ more.0, s.2 ∙ ap (λ (x : List ℕ). s.0 ++ x) more.1, (s.3, more.2))

pub format_of : (es : List FormatElement) (text : List ℕ) → Spelled es text → AreApart es → IsFormat text es
format_of es text s apart = let it = pieces_of es text s in record { spellings = it.0; whole = it.1; each = it.2; apart = apart }

-- ---- texts without `%`

abbrev pub IsPlain : List ℕ → Type 0
IsPlain text = AllByRecursion (λ c. c ≢ 37) text

pub plain_at : (text : List ℕ) → ((i : ℕ) → i < length text → get_or text i 0 ≢ 37) → IsPlain text
plain_at [] h = tt
plain_at (c ∷ text) h = (h 0 (omega arith), plain_at text (λ i k. h (suc i) (omega arith)))

all_plain : (text : List ℕ) → IsPlain text → (k : ℕ) (d : ℕ) → k < length text → get_or text k d ≢ 37
all_plain [] p k d h = absurd (omega arith)
all_plain (c ∷ text) p zero d h = p.0
all_plain (c ∷ text) p (suc k) d h = all_plain text p.1 k d (omega arith)

pub not_plain : (a x : List ℕ) → IsPlain (a ++ 37 ∷ x) → ⊥
not_plain [] x p = p.0 refl
not_plain (c ∷ a) x p = not_plain a x p.1

pub split_same : (a b x y : List ℕ) → IsPlain a → IsPlain b → a ++ 37 ∷ x ≡ b ++ 37 ∷ y → (a ≡ b) × (x ≡ y)
split_same [] [] x y p q e = (refl, cc)
split_same [] (c ∷ b) x y p q e = let same : c ≡ 37 = cc in absurd (q.0 same)
split_same (c ∷ a) [] x y p q e = let same : c ≡ 37 = cc in absurd (p.0 same)
split_same (c ∷ a) (d ∷ b) x y p q e =
    let head : c ≡ d = cc in
    let tail : a ++ 37 ∷ x ≡ b ++ 37 ∷ y = cc in
    let more = split_same a b x y p.1 q.1 tail in
    let rest : a ≡ b = more.0 in
    (cc, more.1)

-- ---- the first field of a format

-- the text begins with a plain run and a field, and goes on as a format
pub record HasField (text : List ℕ) : Type 0 where
  pub run : List ℕ
  pub plain : IsPlain run
  pub piece : List ℕ
  pub field : ConversionSpecifier
  pub spelled : IsField piece field
  pub rest : List ℕ
  pub more : List FormatElement
  pub goes_on : IsFormat rest more
  pub whole : text ≡ run ++ 37 ∷ (body_of spelled ++ rest)

with_field : (run text piece rest : List ℕ) (f : ConversionSpecifier) (more : List FormatElement) → IsPlain run → IsField piece f → IsFormat rest more → text ≡ run ++ (piece ++ rest) → HasField text
with_field run text piece rest f more plain k goes_on e =
    let whole : text ≡ run ++ 37 ∷ (body_of k ++ rest) = e ∙ ap (λ (x : List ℕ). run ++ (x ++ rest)) k.whole in
    record { run = run; plain = plain; piece = piece; field = f; spelled = k; rest = rest; more = more; goes_on = goes_on; whole = whole }

pub plain_of : (piece : List ℕ) → All (λ c. c ≢ 37) piece → IsPlain piece
plain_of piece h = plain_at piece (λ i k. h i 0 k)

-- a format is plain, or has a first field
parted_by : (es : List FormatElement) (text : List ℕ) → Spelled es text → AreApart es → IsPlain text ⊎ HasField text
parted_by [] text s apart = inl (subst IsPlain (sym s) tt)
parted_by (Format f ∷ es) text s apart = inr (with_field [] text s.0 s.1 f es tt s.3 (format_of es s.1 s.4 apart) s.2)
parted_by (Verbatim v ∷ []) text s apart =
    let whole : text ≡ s.0 = s.2 ∙ ap (λ (x : List ℕ). s.0 ++ x) s.4 ∙ append-nil s.0 in
    inl (subst IsPlain (sym whole) (plain_of s.0 s.3.2))
parted_by (Verbatim v ∷ Format f ∷ es) text s apart =
    let t = s.4 in
    inr (with_field s.0 text t.0 t.1 f es (plain_of s.0 s.3.2) t.3 (format_of es t.1 t.4 apart) (s.2 ∙ ap (λ (x : List ℕ). s.0 ++ x) t.2))
parted_by (Verbatim v ∷ Verbatim w ∷ es) text s apart = absurd apart

parted : (text : List ℕ) (es : List FormatElement) → IsFormat text es → IsPlain text ⊎ HasField text
parted text es k = parted_by es text (spelled_of es text k) k.apart

-- ---- one step of the reading

-- how a text goes on behind its first field
pub step_complete : (text run field after : List ℕ) (f : ConversionSpecifier) → text ≡ run ++ 37 ∷ field → IsPlain run → read_field field ≡ Some (f, after) → (es : List FormatElement) → IsFormat text es → (more : List FormatElement) × IsFormat after more
step_complete text run field after f e plain r es k =
    elim (parted text es k) [
      | inl p ↦ absurd (not_plain run field (subst IsPlain e p))
      | inr h ↦
          let same = split_same run h.run field (body_of h.spelled ++ h.rest) plain h.plain (sym e ∙ h.whole) in
          let again : read_field field ≡ Some (h.field, h.rest) = rw same.1 (read_field-is h.piece h.rest h.field h.spelled) in
          let parts = some_parts h.field f h.rest after (sym again ∙ r) in
          (h.more, subst (λ x. IsFormat x h.more) parts.1 h.goes_on)
    ]

-- a `%` that begins no field
pub step_fails : (text run field : List ℕ) → text ≡ run ++ 37 ∷ field → IsPlain run → read_field field ≡ None → IsNoFormat text
step_fails text run field e plain r es k =
    elim (parted text es k) [
      | inl p ↦ not_plain run field (subst IsPlain e p)
      | inr h ↦
          let same = split_same run h.run field (body_of h.spelled ++ h.rest) plain h.plain (sym e ∙ h.whole) in
          let again : read_field field ≡ Some (h.field, h.rest) = rw same.1 (read_field-is h.piece h.rest h.field h.spelled) in
          cc
    ]

-- what follows a field is shorter
pub shorter : (text run field after : List ℕ) (f : ConversionSpecifier) → text ≡ run ++ 37 ∷ field → read_field field ≡ Some (f, after) → length after < length text
shorter text run field after f e r =
    let it = field_sound field after f r in
    let field_is : length field ≡ length it.0 + length after = ap length it.1 ∙ length-append it.0 after in
    let text_is : length text ≡ length run + suc (length field) = ap length e ∙ length-append run (37 ∷ field) in
    omega arith

field_before : (field after : List ℕ) (f : ConversionSpecifier) (more : List FormatElement) → read_field field ≡ Some (f, after) → IsFormat after more → Spelled (Format f ∷ more) (37 ∷ field)
field_before field after f more r k = let it = field_sound field after f r in (37 ∷ it.0, after, ap (λ (x : List ℕ). 37 ∷ x) it.1, it.2, spelled_of more after k)

kept : (run : Bor (List ℕ)) (n : ℕ) → length run.now ≡ suc n → verbatim run ≡ Verbatim run ∷ []
kept run n e = let some : eqb (length run.now) 0 ≡ false = grind (arith, nat_tests) in ap (λ b. cond b [] (Verbatim run ∷ [])) some

dropped : (run : Bor (List ℕ)) → length run.now ≡ 0 → verbatim run ≡ []
dropped run e = let none : eqb (length run.now) 0 ≡ true = grind (arith, nat_tests) in ap (λ b. cond b [] (Verbatim run ∷ [])) none

run_before : (run : Bor (List ℕ)) (run_now : List ℕ) (rest : List ℕ) (f : ConversionSpecifier) (more : List FormatElement) → run.now ≡ run_now → IsPlain run_now → Spelled (Format f ∷ more) rest → AreApart more → IsFormat (run_now ++ rest) (verbatim run ++ Format f ∷ more)
run_before run [] rest f more e plain s apart = subst (λ es. IsFormat rest (es ++ Format f ∷ more)) (sym (dropped run (ap length e))) (format_of (Format f ∷ more) rest s apart)
run_before run (c ∷ cs) rest f more e plain s apart =
    subst (λ es. IsFormat (c ∷ (cs ++ rest)) (es ++ Format f ∷ more)) (sym (kept run (length cs) (ap length e))) (format_of (Verbatim run ∷ Format f ∷ more) (c ∷ (cs ++ rest)) (c ∷ cs, rest, refl, (e, omega arith, all_plain (c ∷ cs) plain), s) apart)

pub step_sound : (text : List ℕ) (run : Bor (List ℕ)) (field after : List ℕ) (f : ConversionSpecifier) → text ≡ run.now ++ 37 ∷ field → IsPlain run.now → read_field field ≡ Some (f, after) → (more : List FormatElement) → IsFormat after more → IsFormat text (verbatim run ++ Format f ∷ more)
step_sound text run field after f e plain r more k =
    subst (λ t. IsFormat t (verbatim run ++ Format f ∷ more)) (sym e) (run_before run run.now (37 ∷ field) f more refl plain (field_before field after f more r k) k.apart)

end_by : (run : Bor (List ℕ)) (run_now : List ℕ) → run.now ≡ run_now → IsPlain run_now → IsFormat run_now (verbatim run)
end_by run [] e plain = subst (λ es. IsFormat [] es) (sym (dropped run (ap length e))) (format_of [] [] refl tt)
end_by run (c ∷ cs) e plain =
    subst (λ es. IsFormat (c ∷ cs) es) (sym (kept run (length cs) (ap length e))) (format_of (Verbatim run ∷ []) (c ∷ cs) (c ∷ cs, [], sym (append-nil (c ∷ cs)), (e, omega arith, all_plain (c ∷ cs) plain), refl) tt)

-- a text without `%` is one run
pub end_sound : (run : Bor (List ℕ)) → IsPlain run.now → IsFormat run.now (verbatim run)
end_sound run plain = end_by run run.now refl plain
