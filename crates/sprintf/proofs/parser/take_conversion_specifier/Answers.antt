use Rattle.std.proofs.Common.{◌≡◌, ℕ, List, take, drop, Option, Some, None, refl, sym, ◌∙◌}
use Rattle.std.specs.List.{prefix_len}
use Rattle.sprintf.specs.declared.parser.NumericParam.{NumericParam}
use Rattle.sprintf.specs.Inner.Reading.{read_field, read_param, read_precision, read_letter, conversion_of, skip_one, field_with}
use Rattle.sprintf.specs.Grammar.{is_flag, length_modifiers}
use Rattle.sprintf.proofs.Letters.{read_letter-none, read_letter-some}
use Rattle.sprintf.proofs.parser.take_conversion_specifier.Goals as goal

-- the parts before the letter
read_field-steps : (text second third : List ℕ) (width : NumericParam) (precision : Option NumericParam) → read_param (drop (prefix_len is_flag text) text) ≡ Some (width, second) → read_precision second ≡ Some (precision, third) → read_field text ≡ read_letter (take (prefix_len is_flag text) text) width precision (skip_one length_modifiers third)
read_field-steps text second third width precision e f = rw (e, f) refl

pub returns-in_err-conversion_type-clause-none : goal.returns-in_err-conversion_type-clause-none
returns-in_err-conversion_type-clause-none c _ =
    let steps = read_field-steps c.args.text.now _ _ _ _ (rw c.cut_flags.ensures.rest at c.in_ok-width.ensures.some) c.in_ok-precision.ensures.some in
    let none : conversion_of c.in_ok-letter.letter ≡ None = sym c.in_err-conversion_type.ensures in
    let flags : List ℕ = take (prefix_len is_flag c.args.text.now) c.args.text.now in
    rw (steps, ← c.skip_length_modifier.ensures) (read_letter-none flags c.in_ok-width.width c.in_ok-precision.precision _ _ c.in_ok-letter.letter c.in_ok-letter.ensures.some none)

pub returns-clause-some : goal.returns-clause-some
returns-clause-some c =
    let steps = read_field-steps c.args.text.now _ _ _ _ (rw c.cut_flags.ensures.rest at c.in_ok-width.ensures.some) c.in_ok-precision.ensures.some in
    let flags : List ℕ = take (prefix_len is_flag c.args.text.now) c.args.text.now in
    let letter : conversion_of c.in_ok-letter.letter ≡ Some c.in_ok-conversion_type.conversion_type = sym c.in_ok-conversion_type.ensures in
    let read = read_letter-some flags c.in_ok-width.width c.in_ok-precision.precision c.in_ok-conversion_type.conversion_type _ _ c.in_ok-letter.letter c.in_ok-letter.ensures.some letter in
    let bytes : c.as_bytes.result.now ≡ flags = c.as_bytes.ensures.value ∙ c.cut_flags.ensures.flags in
    let spec : c.specifier-spec.result ≡ field_with flags c.in_ok-width.width c.in_ok-precision.precision c.in_ok-letter.letter c.in_ok-conversion_type.conversion_type = rw bytes at c.specifier-spec.ensures in
    rw (steps, ← c.skip_length_modifier.ensures, spec) read
