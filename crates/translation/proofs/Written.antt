-- The options of each row are written as the table says.
use Rattle.std.proofs.Common.{◌≡◌, ℕ, ◌-◌, Bool, true, false, List, [], ◌∷◌, ◌++◌, length, Option, Some, None, refl, ap, ◌∙◌, arith}
use Rattle.std.specs.Prelude.{option_map, codes, ◌==◌, if◌then◌else◌}
use Rattle.std.proofs.lemmas.List.{append-nil}
use Rattle.std.proofs.lemmas.Bool.Decides.{nat_tests}
use Rattle.numerals.specs.Numeral.{numeral}
use Rattle.translation.specs.declared.options.Letters.{Letters}
use Rattle.translation.specs.declared.options.Options.{Options}
use Rattle.translation.specs.declared.row.Row.{Row}
use Rattle.translation.specs.declared.row.Row.TheVariants.{Unpadded, ToLeft, ByZeros, ToRight}
use Rattle.translation.specs.declared.target.Target.{Target}
use Rattle.translation.specs.declared.target.Target.TheVariants.{Strfmt, Formatx}
use Rattle.sprintf.specs.declared.parser.ConversionSpecifier.{ConversionSpecifier}
use Rattle.values.specs.declared.kind.Kind.{Kind}
use Rattle.row_format.specs.Columns.{width_of}
use Rattle.translation.specs.Table.{in_braces, decimal_options, decimal_field, based_field, text_options, precision_text, row_of, least_length, has_space, sign_in, width_text}
use Rattle.translation.specs.Inner.Options.{written, plus_text, letters_text, precision_text as point_text}
use Rattle.translation.specs.Inner.Plans.{decimal_plan, based_plan, text_plan, cutting}

pub decimal_written : (target : Target) (row : Row) (plus : Bool) (w : ℕ) → option_map (written target) (decimal_plan target row plus w) ≡ decimal_options target row (plus_text plus) (numeral 10 false w)
decimal_written Formatx Unpadded true w = refl
decimal_written Formatx Unpadded false w = refl
decimal_written Formatx ToLeft true w = rw (append-nil (numeral 10 false w)) refl
decimal_written Formatx ToLeft false w = rw (append-nil (numeral 10 false w)) refl
decimal_written Formatx ByZeros true w = rw (append-nil (numeral 10 false w)) refl
decimal_written Formatx ByZeros false w = rw (append-nil (numeral 10 false w)) refl
decimal_written Formatx ToRight true w = rw (append-nil (numeral 10 false w)) refl
decimal_written Formatx ToRight false w = rw (append-nil (numeral 10 false w)) refl
decimal_written Strfmt Unpadded true w = refl
decimal_written Strfmt Unpadded false w = refl
decimal_written Strfmt ToLeft true w = refl
decimal_written Strfmt ToLeft false w = rw (append-nil (numeral 10 false w)) refl
decimal_written Strfmt ByZeros plus w = refl
decimal_written Strfmt ToRight true w = refl
decimal_written Strfmt ToRight false w = rw (append-nil (numeral 10 false w)) refl

pub not_empty : (c : ℕ) (p : List ℕ) → (length (c ∷ p) == 0) ≡ false
not_empty c p = grind (arith, nat_tests)

-- the prefix, and then the field in braces
abbrev pub prefixed : Target → ℕ → List ℕ → Options → List ℕ
prefixed target i p o = p ++ in_braces i (written target o)

pub based_written : (target : Target) (row : Row) (letters : Letters) (p : List ℕ) (w i : ℕ)
    → option_map (prefixed target i p) (based_plan target row letters (length p) w) ≡ based_field target row i (letters_text target letters) p (numeral 10 false w) (numeral 10 false (w - length p))
based_written Formatx Unpadded letters p w i = refl
based_written Strfmt Unpadded letters p w i = refl
based_written Formatx ToLeft letters p w i = refl
based_written Strfmt ToLeft letters p w i = refl
based_written Formatx ByZeros letters p w i = refl
based_written Strfmt ByZeros letters p w i = refl
based_written Formatx ToRight letters [] w i = refl
based_written Strfmt ToRight letters [] w i = refl
based_written Formatx ToRight letters (c ∷ p) w i = rw (not_empty c p) refl
based_written Strfmt ToRight letters (c ∷ p) w i = rw (not_empty c p) refl

pub cutting_written : (q : ℕ) → point_text (cutting q) ≡ precision_text (Some q)
cutting_written q = by_test (q == 2147483647)
  where
    by_test : (b : Bool) → point_text (if b then None else Some q) ≡ (if b then [] else codes "." ++ numeral 10 false q)
    by_test true = refl
    by_test false = refl

pub text_written : (target : Target) (row : Row) (w : ℕ) (q : Option ℕ) → written target (text_plan row w q) ≡ text_options row (numeral 10 false w) (point_text q)
text_written target Unpadded w q = append-nil (point_text q)
text_written target ToLeft w q = rw (append-nil (point_text q)) refl
text_written target ByZeros w q = rw (append-nil (point_text q)) refl
text_written target ToRight w q = rw (append-nil (point_text q)) refl

-- the options of a decimal field are those of the table
pub decimal_found : (target : Target) (f : ConversionSpecifier) (kind : Kind) (plus : Bool) (i : ℕ) (o : Options) → has_space f kind ≡ false → plus_text plus ≡ sign_in f kind
    → decimal_plan target (row_of (least_length f kind) f) plus (width_of f) ≡ Some o → Some (in_braces i (written target o)) ≡ decimal_field target i f kind
decimal_found target f kind plus i o space sign plan =
    let row : Row = row_of (least_length f kind) f in
    let all : option_map (written target) (decimal_plan target row plus (width_of f)) ≡ decimal_options target row (plus_text plus) (width_text f) = decimal_written target row plus (width_of f) in
    let found : Some (written target o) ≡ decimal_options target row (plus_text plus) (width_text f) = rw plan at all in
    rw space (ap (option_map (in_braces i)) (found ∙ ap (λ (s : List ℕ). decimal_options target row s (width_text f)) sign))
