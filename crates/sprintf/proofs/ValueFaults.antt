-- Faults that printing doesn't find itself come from values.
use Rattle.std.proofs.Common.{◌≡◌, ◌≢◌, ℕ, zero, suc, Bool, true, false, ℤ, pos, negsuc, List, [], ◌∷◌, length, drop, nat_lt, Option, Some, None, Result, Ok, Err, All, refl, sym, ap, ◌∙◌, subst, encode_utf8}
use Rattle.std.specs.List.{AllByRecursion}
use Rattle.std.specs.Int.{Width, w8, w16, w32, w64, cast_unsigned}
use Rattle.std.proofs.Math.Utf8.{scalar}
use Rattle.std.proofs.lemmas.List.Elements.{recursion_from_All}
use Rattle.sprintf.specs.declared.PrintfError.{PrintfError}
use Rattle.sprintf.specs.declared.PrintfError.TheVariants.{WrongType, TooManyArgs, NotEnoughArgs}
use Rattle.sprintf.specs.declared.arg.Arg.{Arg}
use Rattle.sprintf.specs.declared.arg.Arg.TheVariants.{U8, U16, U32, U64, Usize, I8, I16, I32, I64, Isize, Char, Str}
use Rattle.sprintf.specs.declared.parser.ConversionSpecifier.{ConversionSpecifier}
use Rattle.sprintf.specs.declared.parser.ConversionType.{ConversionType}
use Rattle.sprintf.specs.declared.parser.ConversionType.TheVariants.{DecInt, OctInt, HexIntLower, HexIntUpper, SciFloatLower, SciFloatUpper, DecFloatLower, DecFloatUpper, CompactFloatLower, CompactFloatUpper, Char as CharConversion, String as StringConversion, PercentSign}
use Rattle.sprintf.specs.declared.parser.FormatElement.{FormatElement}
use Rattle.sprintf.specs.declared.parser.FormatElement.TheVariants.{Verbatim, Format}
use Rattle.sprintf.specs.declared.parser.NumericParam.{NumericParam}
use Rattle.sprintf.specs.declared.parser.NumericParam.TheVariants.{Literal, FromArgument}
use Rattle.sprintf.specs.Field.{number_of, with_number, number_text, unsigned_text, signed_text, character_text, word_text}
use Rattle.sprintf.specs.Meaning.{Meaning, by_conversion}
use Rattle.sprintf.specs.Values.{arg_meaning, character_where, signed_character}
use Rattle.sprintf.specs.Text.{stars, wanted, then_with, star_number, param_of, value_text, field_by, field_text, onto, printed}
use Rattle.sprintf.specs.Laws.{NeverAnswers, TakesFaultsFromValues, CarriedRefuseTypes}

rest_all : {X : Type 0} (P : X → Type 0) (n : ℕ) (xs : List X) → AllByRecursion P xs → AllByRecursion P (drop n xs)
rest_all P zero xs h = h
rest_all P (suc n) [] h = tt
rest_all P (suc n) (x ∷ xs) h = rest_all P n xs h.1

fault_is : {A : Type 0} {d e : PrintfError} → ◌≡◌ {A = Result A PrintfError} (Err d) (Err e) → e ≡ d
fault_is h = cc

-- a width or a precision that was found is a number
found_number : (p q : NumericParam) (values : List Meaning) → param_of p values ≡ Ok q → q ≢ FromArgument
found_number (Literal z) q values h e = cc
found_number FromArgument q [] h e = cc
found_number FromArgument q (v ∷ values) h e = by_star v.int q h e
  where
    by_star : (o : Option ℤ) (q : NumericParam) → star_number o ≡ Ok q → q ≢ FromArgument
    by_star (Some z) q h e = cc
    by_star None q h e = cc

module _ (fault : PrintfError) (no_type : fault ≢ WrongType) (no_lack : fault ≢ NotEnoughArgs) (no_excess : fault ≢ TooManyArgs) where
  not_star : (o : Option ℤ) → star_number o ≢ Err fault
  not_star (Some z) h = cc
  not_star None h = no_type (fault_is h)

  not_param : (p : NumericParam) (values : List Meaning) → param_of p values ≢ Err fault
  not_param (Literal z) values h = cc
  not_param FromArgument [] h = no_lack (fault_is h)
  not_param FromArgument (v ∷ values) h = not_star v.int h

  not_value : (f : ConversionSpecifier) (values : List Meaning) → f.width ≢ FromArgument → f.precision ≢ FromArgument → AllByRecursion (NeverAnswers fault) values → value_text f values ≢ Err fault
  not_value f [] w p all h = no_lack (fault_is h)
  not_value f (v ∷ values) w p all h = all.0 f w p h

  not_then : {A B : Type 0} (r : Result A PrintfError) (next : A → Result B PrintfError) → r ≢ Err fault → ((a : A) → r ≡ Ok a → next a ≢ Err fault) → then_with r next ≢ Err fault
  not_then (Ok a) next first more h = more a refl h
  not_then {A = A} (Err e) next first more h = first (ap (λ (e : PrintfError). let r : Result A PrintfError = Err e in r) (sym (fault_is h)))

  not_field : (t : ConversionType) (f : ConversionSpecifier) (values : List Meaning) → AllByRecursion (NeverAnswers fault) values → field_by t f values ≢ Err fault
  not_field PercentSign f values all h = cc
  not_field _ f values all h =
      let after : List Meaning = drop (stars f.width) values in
      let left : List Meaning = drop (stars f.precision) after in
      let text : NumericParam → NumericParam → Result (List ℕ) PrintfError = λ width precision. value_text (record f { width = width; precision = precision }) left in
      not_then (param_of f.width values) (λ width. then_with (param_of f.precision after) (λ precision. text width precision)) (not_param f.width values)
      (λ width is_width. not_then (param_of f.precision after) (text width) (not_param f.precision after)
      (λ precision is_precision. not_value (record f { width = width; precision = precision }) left (found_number f.width width values is_width) (found_number f.precision precision after is_precision) (rest_all (NeverAnswers fault) (stars f.precision) after (rest_all (NeverAnswers fault) (stars f.width) values all))))
      h

  not_onto : (text : List ℕ) (r : Result (List ℕ) PrintfError) → r ≢ Err fault → onto text r ≢ Err fault
  not_onto text (Ok more) n h = cc
  not_onto text (Err e) n h = n h

  not_printed : (elements : List FormatElement) (values : List Meaning) → AllByRecursion (NeverAnswers fault) values → printed elements values ≢ Err fault
  not_printed [] [] all h = cc
  not_printed [] (v ∷ values) all h = no_excess (fault_is h)
  not_printed (Verbatim s ∷ es) values all h = not_onto s.now (printed es values) (not_printed es values all) h
  not_printed (Format f ∷ es) values all h =
      not_then (field_text f values) (λ text. onto text (printed es (drop (wanted f) values))) (not_field f.conversion_type f values all)
      (λ text _. not_onto text (printed es (drop (wanted f) values)) (not_printed es (drop (wanted f) values) (rest_all (NeverAnswers fault) (wanted f) values all)))
      h

pub takes_faults_from_values : TakesFaultsFromValues
takes_faults_from_values fault elements values no_type no_lack no_excess all = not_printed fault no_type no_lack no_excess elements values (recursion_from_All (NeverAnswers fault) values all)

-- ---- carried values

module _ (f : ConversionSpecifier) (is_width : f.width ≢ FromArgument) (is_precision : f.precision ≢ FromArgument) (fault : PrintfError) (no_type : fault ≢ WrongType) where
  not_number : (p : NumericParam) → p ≢ FromArgument → (text : ℕ → Result (List ℕ) PrintfError) → ((n : ℕ) → text n ≢ Err fault) → with_number (number_of p) text ≢ Err fault
  not_number (Literal (pos n)) is text more h = more n h
  not_number (Literal (negsuc n)) is text more h = more 0 h
  not_number FromArgument is text more h = is refl

  not_ok : (text : List ℕ) → ◌≢◌ {A = Result (List ℕ) PrintfError} (Ok text) (Err fault)
  not_ok text h = cc

  not_refused : ◌≢◌ {A = Result (List ℕ) PrintfError} (Err WrongType) (Err fault)
  not_refused h = no_type (fault_is h)

  not_digits : (lead : List ℕ) (n : ℕ) → number_text f lead n ≢ Err fault
  not_digits lead n = not_number f.width is_width _ (λ width. not_ok _)

  not_signed : (t : ConversionType) (z : ℤ) (complement : ℕ) → signed_text t f z complement ≢ Err fault
  not_signed DecInt z complement = not_digits _ _
  not_signed _ z complement = not_digits _ complement

  not_character : (c : ℕ) → character_text f c ≢ Err fault
  not_character c = not_number f.width is_width _ (λ width. not_ok _)

  not_where : (has : Bool) (c : ℕ) → character_where has f c ≢ Err fault
  not_where true c = not_character c
  not_where false c = not_refused

  not_i8 : (z : ℤ) → signed_character f z ≢ Err fault
  not_i8 (pos c) = not_character c
  not_i8 (negsuc n) = not_refused

  not_word : (word : List ℕ) → word_text f word ≢ Err fault
  not_word word = not_number f.width is_width _ (λ width. not_number f.precision is_precision _ (λ precision. not_ok _))

  not_answer : (t : ConversionType) (digits character word : Result (List ℕ) PrintfError) → digits ≢ Err fault → character ≢ Err fault → word ≢ Err fault → by_conversion t digits character word ≢ Err fault
  not_answer DecInt d c w x y z = x
  not_answer OctInt d c w x y z = x
  not_answer HexIntLower d c w x y z = x
  not_answer HexIntUpper d c w x y z = x
  not_answer CharConversion d c w x y z = y
  not_answer StringConversion d c w x y z = z
  not_answer _ d c w x y z = not_refused

  not_unsigned : (n : ℕ) → by_conversion f.conversion_type (unsigned_text f n) (Err WrongType) (Err WrongType) ≢ Err fault
  not_unsigned n = not_answer f.conversion_type (unsigned_text f n) (Err WrongType) (Err WrongType) (not_digits _ n) not_refused not_refused

  not_code : (has : Bool) (n : ℕ) → by_conversion f.conversion_type (unsigned_text f n) (character_where has f n) (Err WrongType) ≢ Err fault
  not_code has n = not_answer f.conversion_type (unsigned_text f n) (character_where has f n) (Err WrongType) (not_digits _ n) (not_where has n) not_refused

  not_signed_only : (w : Width) (z : ℤ) → by_conversion f.conversion_type (signed_text f.conversion_type f z (cast_unsigned w z)) (Err WrongType) (Err WrongType) ≢ Err fault
  not_signed_only w z = not_answer f.conversion_type (signed_text f.conversion_type f z (cast_unsigned w z)) (Err WrongType) (Err WrongType) (not_signed f.conversion_type z (cast_unsigned w z)) not_refused not_refused

  not_carried : (value : Arg) → (arg_meaning value).text f ≢ Err fault
  not_carried (U8 n) = not_code (nat_lt n 128) n
  not_carried (U16 n) = not_code (scalar n) n
  not_carried (U32 n) = not_code (scalar n) n
  not_carried (U64 n) = not_unsigned n
  not_carried (Usize n) = not_unsigned n
  not_carried (I8 z) = not_answer f.conversion_type (signed_text f.conversion_type f z (cast_unsigned w8 z)) (signed_character f z) (Err WrongType) (not_signed f.conversion_type z (cast_unsigned w8 z)) (not_i8 z) not_refused
  not_carried (I16 z) = not_signed_only w16 z
  not_carried (I32 z) = not_signed_only w32 z
  not_carried (I64 z) = not_signed_only w64 z
  not_carried (Isize z) = not_signed_only w64 z
  not_carried (Char c) = not_answer f.conversion_type (Err WrongType) (character_text f c) (Err WrongType) not_refused (not_character c) not_refused
  not_carried (Str s) = not_answer f.conversion_type (Err WrongType) (Err WrongType) (word_text f s.now) not_refused not_refused (not_word s.now)

pub carried_refuse_types : CarriedRefuseTypes
carried_refuse_types value fault no_type = λ f width precision. not_carried f width precision fault no_type value
