-- Fields in braces, and text whose braces are doubled.
use Rattle.std.proofs.Common.{◌≡◌, ◌≢◌, ◌⊎◌, inl, inr, ℕ, suc, ◌<◌, Bool, true, false, List, [], ◌∷◌, ◌++◌, length, get_or, Option, Some, None, refl, ap, sym, ◌∙◌, append_assoc, arith}
use Rattle.std.specs.Prelude.{codes, encode_utf8, encode_utf8_all}
use Rattle.std.proofs.lemmas.Bool.Decides.{nat_tests}
use Rattle.std.proofs.lemmas.List.{append-nil}
use Rattle.std.proofs.lemmas.Str.{inside_one, encodes-append}
use Rattle.numerals.specs.Numeral.{numeral}
use Rattle.row_format.specs.Planned.{escaped, escaped_byte}
use Rattle.translation.specs.declared.options.Letters.{Letters}
use Rattle.translation.specs.declared.options.Letters.TheVariants.{Unset as NoLetters, LowerHex, UpperHex, Octal}
use Rattle.translation.specs.declared.options.Options.{Options}
use Rattle.translation.specs.declared.options.Side.{Side}
use Rattle.translation.specs.declared.options.Side.TheVariants.{Unset, Left, Right, RightOfZeros}
use Rattle.translation.specs.declared.target.Target.{Target}
use Rattle.translation.specs.declared.target.Target.TheVariants.{Strfmt, Formatx}
use Rattle.translation.specs.Table.{in_braces}
use Rattle.translation.specs.Inner.Options.{written, letters_text, behind_colon}
use Rattle.translation.specs.Inner.Plans.{none}
use Rattle.translation.proofs.Numerals.{HasFirst, numeral_first}

-- what stands in braces, with its colon
pub braces : (i : ℕ) (options : List ℕ) → in_braces i options ≡ codes "{" ++ (numeral 10 false i ++ (behind_colon options ++ codes "}"))
braces i [] = refl
braces i (c ∷ cs) = simp append_assoc

-- a field as it is appended part by part
pub field_parts : (old prefix options : List ℕ) (i : ℕ) → old ++ prefix ++ codes "{" ++ numeral 10 false i ++ behind_colon options ++ codes "}" ≡ old ++ (prefix ++ in_braces i options)
field_parts old prefix options i = rw (braces i options) (simp append_assoc)

-- a first part that isn't empty, or a later one
cons_front : (a b : List ℕ) → HasFirst a → HasFirst (a ++ b)
cons_front a b h = rw h.is (record { first = h.first; others = h.others ++ b; is = refl })

abbrev parts : Side → Bool → Bool → Option ℕ → Option ℕ → Letters → Options
parts side plus zeros width precision letters = record { side = side; plus = plus; zero = zeros; width = width; precision = precision; letters = letters }

some_letters : (target : Target) (letters : Letters) → (parts Unset false false None None letters ≡ none) ⊎ HasFirst (letters_text target letters)
some_letters target NoLetters = inl refl
some_letters Strfmt LowerHex = inr (record { first = 120; others = []; is = refl })
some_letters Strfmt UpperHex = inr (record { first = 88; others = []; is = refl })
some_letters Strfmt Octal = inr (record { first = 111; others = []; is = refl })
some_letters Formatx LowerHex = inr (record { first = 120; others = 63 ∷ []; is = refl })
some_letters Formatx UpperHex = inr (record { first = 88; others = 63 ∷ []; is = refl })
some_letters Formatx Octal = inr (record { first = 111; others = []; is = refl })

some_parts : (target : Target) (side : Side) (plus zeros : Bool) (width precision : Option ℕ) (letters : Letters) →
    (parts side plus zeros width precision letters ≡ none) ⊎ HasFirst (written target (parts side plus zeros width precision letters))
some_parts target Left plus zeros width precision letters = inr (record { first = 60; others = _; is = refl })
some_parts target Right plus zeros width precision letters = inr (record { first = 62; others = _; is = refl })
some_parts target RightOfZeros plus zeros width precision letters = inr (record { first = 48; others = _; is = refl })
some_parts target Unset true zeros width precision letters = inr (record { first = 43; others = _; is = refl })
some_parts target Unset false true width precision letters = inr (record { first = 48; others = _; is = refl })
some_parts target Unset false false (Some w) precision letters = inr (cons_front (numeral 10 false w) _ (numeral_first 10 w false))
some_parts target Unset false false None (Some q) letters = inr (record { first = 46; others = _; is = refl })
some_parts target Unset false false None None letters = some_letters target letters

-- options are none, or some text
pub none_or_some : (target : Target) (o : Options) → (o ≡ none) ⊎ HasFirst (written target o)
none_or_some target o = some_parts target o.side o.plus o.zero o.width o.precision o.letters

-- options that aren't the empty ones are some text
pub some_written : (target : Target) (o : Options) → o ≢ none → HasFirst (written target o)
some_written target o h = pick (none_or_some target o)
  where
    pick : (o ≡ none) ⊎ HasFirst (written target o) → HasFirst (written target o)
    pick (inl e) = absurd (h e)
    pick (inr f) = f

-- some text behind its colon
pub with_colon : (old text : List ℕ) → HasFirst text → old ++ codes ":" ++ text ≡ old ++ behind_colon text
with_colon old text h = rw h.is (append_assoc old (codes ":") (h.first ∷ h.others))

-- a text without braces is as it was
pub escaped_plain : (bs : List ℕ) → ((k : ℕ) → k < length bs → (get_or bs k 0 ≢ 123) × (get_or bs k 0 ≢ 125)) → escaped bs ≡ bs
escaped_plain [] h = refl
escaped_plain (b ∷ bs) h =
    let first = h 0 (omega arith) in
    let here : escaped_byte b ≡ b ∷ [] = grind (arith, nat_tests, first.0, first.1) in
    let rest : escaped bs ≡ bs = escaped_plain bs (λ k low. h (suc k) (omega arith)) in
    rw (here, rest) refl

-- a character that is no brace has none among its bytes
pub escaped_character : (c : ℕ) → c ≢ 123 → c ≢ 125 → escaped (encode_utf8 c) ≡ encode_utf8 c
escaped_character c opens closes = escaped_plain (encode_utf8 c) (λ k low. (λ e. opens (is k low 123 e (omega arith)), λ e. closes (is k low 125 e (omega arith))))
  where
    is : (k : ℕ) → k < length (encode_utf8 c) → (b : ℕ) → get_or (encode_utf8 c) k 0 ≡ b → b < 128 → c ≡ b
    is k low b e small = inside_one c [] (encode_utf8 c) k (sym (append-nil (encode_utf8 c))) low (omega (arith, e)) ∙ e

-- text with doubled braces goes by its parts
pub escaped_append : (a b : List ℕ) → escaped (a ++ b) ≡ escaped a ++ escaped b
escaped_append [] b = refl
escaped_append (x ∷ a) b = ap (λ (t : List ℕ). escaped_byte x ++ t) (escaped_append a b) ∙ sym (append_assoc (escaped_byte x) (escaped a) (escaped b))

-- one character more
pub escaped_more : (old ys : List ℕ) (c : ℕ) → old ++ escaped (encode_utf8_all ys) ++ escaped (encode_utf8 c) ≡ old ++ escaped (encode_utf8_all (ys ++ c ∷ []))
escaped_more old ys c =
    append_assoc old (escaped (encode_utf8_all ys)) (escaped (encode_utf8 c))
    ∙ ap (λ (t : List ℕ). old ++ t) (sym (escaped_append (encode_utf8_all ys) (encode_utf8 c)))
    ∙ ap (λ (t : List ℕ). old ++ escaped t) (sym (encodes-append ys (c ∷ []) ∙ ap (λ (t : List ℕ). encode_utf8_all ys ++ t) (append-nil (encode_utf8 c))))
