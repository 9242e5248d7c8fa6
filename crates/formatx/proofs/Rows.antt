-- Worked rows of the definitions, computed.
use Rattle.std.proofs.Common.{◌≡◌, ℕ, List, [], ◌∷◌, Some, None, true, Ok, Err, pos, refl, arith, inl, inr}
use Rattle.std.specs.Prelude.{codes, Result}
use Rattle.std.specs.Str.{chars}
use Rattle.std.specs.Char.{encode_utf8}
use Rattle.numerals.specs.Numeral.{numeral}
use Rattle.formatx.specs.Fault.{Fault, unreadable, missing, unsupported}
use Rattle.formatx.specs.Options.{count_of, precision_of, type_of}
use Rattle.formatx.specs.Placeholders.{argument_of, options_of, spec_of, placeholder_of}
use Rattle.formatx.specs.Spans.{no_options}
use Rattle.formatx.specs.Grammar.{Spells, HasFault}
use Rattle.formatx.specs.Values.{Meaning, integer_meaning, str_meaning}
use Rattle.formatx.specs.Text.{placeholder_text}
use Rattle.formatx.specs.declared.ast.Argument.TheVariants.{Implicit}
use Rattle.formatx.specs.declared.ast.FormatType.TheVariants.{Debug, LowerHex}
use Rattle.formatx.specs.declared.ast.Sign.TheVariants.{Plus}
use Rattle.formatx.specs.declared.ast.Count.TheVariants.{Literal as Number}
use Rattle.formatx.specs.declared.ast.Precision.TheVariants.{Star}
use Rattle.formatx.specs.declared.ast.Placeholder.{Placeholder}
use Rattle.formatx.specs.declared.ast.Span.{Span}
use Rattle.formatx.specs.declared.ast.Segment.TheVariants.{Literal, EscapedOpen, Placeholder as Placed}

abbrev span : ℕ → ℕ → Span
span start end = record { start = start; end = end }

abbrev implicit : ℕ → ℕ → Placeholder
implicit i j = record { argument = Implicit; spec = no_options; span = span i j }

-- a placeholder, a literal and an escape
row_segments : Spells (codes "{}+{{") (Placed (implicit 0 2) ∷ Literal (span 2 3) ∷ EscapedOpen ∷ [])
unfolding placeholder_of spec_of argument_of
row_segments = (codes "+{{", (refl, refl), (codes "{{", (refl, omega arith, refl), ([], refl, refl)))

-- the first faults of some sources
abbrev Faulty : List ℕ → ℕ → ℕ → List ℕ → Type 0
Faulty source start end message = HasFault source (unreadable (span start end) message)

lone : Faulty (codes "a}") 1 2 (codes "unmatched `}`")
lone = (Literal (span 0 1) ∷ [], codes "}", (codes "}", (refl, omega arith, refl), refl), inl (refl, refl))

fault1 : Faulty (codes "{") 1 1 (codes "unexpected end of format string")
unfolding placeholder_of spec_of options_of argument_of count_of precision_of type_of chars encode_utf8
fault1 = ([], codes "{", refl, inr (refl, refl))

fault2 : Faulty (codes "{0") 1 2 (codes "invalid placeholder argument")
unfolding placeholder_of spec_of options_of argument_of count_of precision_of type_of chars encode_utf8
fault2 = ([], codes "{0", refl, inr (refl, refl))

fault3 : Faulty (codes "{:0width$}") 3 4 (codes "unknown format type: `w`")
unfolding placeholder_of spec_of options_of argument_of count_of precision_of type_of chars encode_utf8
fault3 = ([], codes "{:0width$}", refl, inr (refl, refl))

fault4 : Faulty (codes "{:.") 2 3 (codes "expected precision after `.`")
unfolding placeholder_of spec_of options_of argument_of count_of precision_of type_of chars encode_utf8
fault4 = ([], codes "{:.", refl, inr (refl, refl))

fault5 : Faulty (codes "{:.}") 2 3 (codes "expected precision value after `.`")
unfolding placeholder_of spec_of options_of argument_of count_of precision_of type_of chars encode_utf8
fault5 = ([], codes "{:.}", refl, inr (refl, refl))

fault6 : Faulty (codes "{:5") 0 3 (codes "unmatched `{`")
unfolding placeholder_of spec_of options_of argument_of count_of precision_of type_of chars encode_utf8
fault6 = ([], codes "{:5", refl, inr (refl, refl))

fault7 : Faulty (codes "{:18446744073709551616}") 2 22 (codes "invalid count: `18446744073709551616`")
unfolding placeholder_of spec_of options_of argument_of count_of precision_of type_of chars encode_utf8
fault7 = ([], codes "{:18446744073709551616}", refl, inr (refl, refl))

fault8 : Faulty (codes "{:18446744073709551616$}") 2 22 (codes "invalid count parameter: `18446744073709551616`")
unfolding placeholder_of spec_of options_of argument_of count_of precision_of type_of chars encode_utf8
fault8 = ([], codes "{:18446744073709551616$}", refl, inr (refl, refl))

fault9 : Faulty (codes "{99999999999999999999}") 1 21 (codes "invalid positional argument: `99999999999999999999`")
unfolding placeholder_of spec_of options_of argument_of count_of precision_of type_of chars encode_utf8
fault9 = ([], codes "{99999999999999999999}", refl, inr (refl, refl))

-- what a source of one placeholder prints over values, strictly
abbrev printed : Placeholder → List Meaning → Result (List ℕ) Fault
printed p values = placeholder_text (record { source = []; values = values; names = λ _. None; strict = true }) 0 p

abbrev n : ℕ → Meaning
n k = integer_meaning (pos k) k

signed : printed (record (implicit 0 6) { spec = record no_options { sign = Some Plus; zero_pad = true; width = Some (Number 5) } }) (n 42 ∷ []) ≡ Ok (codes "+0042")
unfolding chars encode_utf8 numeral
signed = refl

starred : printed (record (implicit 0 5) { spec = record no_options { precision = Some Star } }) (n 2 ∷ str_meaning (codes "abc") ∷ []) ≡ Ok (codes "ab")
unfolding chars encode_utf8 numeral
starred = refl

no_star : printed (record (implicit 0 5) { spec = record no_options { precision = Some Star } }) [] ≡ Err (unreadable (span 0 0) (codes "not enough arguments for `.*` precision"))
no_star = refl

not_carried : printed (record (implicit 0 4) { spec = record no_options { format_type = LowerHex } }) (n 1 ∷ []) ≡ Err (unsupported LowerHex (span 0 4))
not_carried = refl

not_there : printed (record (implicit 0 4) { spec = record no_options { format_type = LowerHex } }) [] ≡ Err (missing (codes "0") (span 0 4))
unfolding numeral
not_there = refl

quoted_text : printed (record (implicit 0 4) { spec = record no_options { format_type = Debug } }) (str_meaning (97 ∷ 34 ∷ []) ∷ []) ≡ Ok (codes "\"a\\\"\"")
unfolding chars encode_utf8
quoted_text = refl
