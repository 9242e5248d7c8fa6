use Rattle.std.proofs.Common.{◌≡◌, ◌≢◌, ℕ, ◌∷◌, [], List, take, drop, Some, arith, refl, ◌≤◌, ℤ, pos}
use Rattle.std.proofs.lemmas.Bool.Decides.{nat_tests}
use Rattle.std.proofs.lemmas.Str.Pattern.{strip_prefix_char}
use Rattle.std.specs.Char.{is_ascii_digit}
use Rattle.std.specs.List.{prefix_len}
use mir.Syntax.{w32}
use mir.Val.{to_z, of_z}
use Rattle.numerals.specs.Numeral.{text_value}
use Rattle.std.proofs.lemmas.Int.{ints}
use Rattle.sprintf.specs.declared.parser.NumericParam.TheVariants.{Literal}
use Rattle.sprintf.specs.Inner.Reading.{read_param, read_count}
use Rattle.sprintf.proofs.Runs.{prefix_len-take, differs}
use Rattle.sprintf.proofs.parser.take_numeric_param.Goals as goal

read_param-plain : (text : List ℕ) → ((rest : List ℕ) → text ≢ 42 ∷ rest) → read_param text ≡ read_count (take (prefix_len is_ascii_digit text) text) (drop (prefix_len is_ascii_digit text) text)
read_param-plain [] h = refl
read_param-plain (c ∷ text) h = rw (differs c 42 text h) refl

pub count_of-requires : goal.count_of-requires
count_of-requires c = rw c.cut_digits.ensures.digits (prefix_len-take is_ascii_digit c.args.text.now)

count_some : (digits rest : List ℕ) (z : ℤ) → (text_value 10 digits ≤ 2147483647) × (z ≡ pos (text_value 10 digits)) → read_count digits rest ≡ Some (Literal (to_z w32 (of_z w32 z)), rest)
count_some digits rest z h =
    let signed : to_z w32 (of_z w32 z) ≡ pos (text_value 10 digits) = rw (h.1) (omega (arith, ints, h.0)) in
    rw signed (grind (arith, nat_tests))

pub returns-clause-some : goal.returns-clause-some
returns-clause-some c =
    let plain : (rest : List ℕ) → c.args.text.now ≢ 42 ∷ rest = rw c.in_default.is at (strip_prefix_char 42 c.args.text.now c.strip_prefix.result c.strip_prefix.ensures.cases (omega arith)) in
    let count = count_some c.cut_digits.result.0.now c.cut_digits.result.1.now c.in_ok-count_of.field-0 c.in_ok-count_of.ensures in
    rw (read_param-plain c.args.text.now plain, ← c.cut_digits.ensures.digits, ← c.cut_digits.ensures.rest) count
