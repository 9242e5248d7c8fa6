-- Values as plain data, and the faults of a printf format over them.
use Rattle.std.proofs.Common.{◌≡◌, ◌≢◌, List, [], ◌∷◌, map, refl, ap, Err}
use Rattle.std.specs.List.{AllByRecursion}
use Rattle.std.proofs.lemmas.List.Elements.{All-from_recursion}
use Rattle.sprintf.specs.declared.arg.Arg.TheVariants.{U8, U16, U32, U64, Usize, I8, I16, I32, I64, Isize, Char, Str}
use Rattle.sprintf.specs.Laws.{NeverAnswers}
use Rattle.sprintf.specs.Text.{printed}
use Rattle.sprintf.specs.declared.PrintfError.{PrintfError}
use Rattle.sprintf.specs.declared.PrintfError.TheVariants.{ParseError, WrongType as CauseWrongType, TooManyArgs as CauseTooManyArgs, NotEnoughArgs as CauseNotEnoughArgs, Unknown, NoMemory}
use Rattle.sprintf.specs.declared.parser.FormatElement.{FormatElement}
use Rattle.sprintf.proofs.ValueFaults.{takes_faults_from_values, carried_refuse_types}
use Rattle.values.specs.declared.kind.Kind.{Kind}
use Rattle.values.specs.declared.value.Value.{Value}
use Rattle.values.specs.declared.value.Value.TheVariants.{U8 as OfU8, U16 as OfU16, U32 as OfU32, U64 as OfU64, Usize as OfUsize, I8 as OfI8, I16 as OfI16, I32 as OfI32, I64 as OfI64, Isize as OfIsize, Word as OfWord, Char as OfChar}
use Rattle.values.specs.Datum.{Datum, kind_of, datum_of, each_of, word_text, value_meaning}
use Rattle.printer.specs.declared.error.RenderFault.TheVariants.{WrongType, TooManyArgs, NotEnoughArgs}
use Rattle.printer.specs.Inner.Appending.{IsCarriedFault}

-- what values are, one by one, is what their kinds and data are
pub each_value : {A : Type 0} (meaning : Kind → Datum → A) (values : List Value) → map (λ v. meaning (kind_of v) (datum_of v)) values ≡ each_of meaning (map kind_of values) (map datum_of values)
each_value meaning [] = refl
each_value {A = A} meaning (v ∷ values) = ap (λ (rest : List A). meaning (kind_of v) (datum_of v) ∷ rest) (each_value meaning values)

module _ (fault : PrintfError) (no_type : fault ≢ CauseWrongType) where
  value_never : (v : Value) → NeverAnswers fault (value_meaning v)
  value_never (OfU8 n) = carried_refuse_types (U8 n) fault no_type
  value_never (OfU16 n) = carried_refuse_types (U16 n) fault no_type
  value_never (OfU32 n) = carried_refuse_types (U32 n) fault no_type
  value_never (OfU64 n) = carried_refuse_types (U64 n) fault no_type
  value_never (OfUsize n) = carried_refuse_types (Usize n) fault no_type
  value_never (OfI8 z) = carried_refuse_types (I8 z) fault no_type
  value_never (OfI16 z) = carried_refuse_types (I16 z) fault no_type
  value_never (OfI32 z) = carried_refuse_types (I32 z) fault no_type
  value_never (OfI64 z) = carried_refuse_types (I64 z) fault no_type
  value_never (OfIsize z) = carried_refuse_types (Isize z) fault no_type
  value_never (OfWord w) = carried_refuse_types (Str (record { ref_ptr = (0, 0); now = word_text w })) fault no_type
  value_never (OfChar c) = carried_refuse_types (Char c) fault no_type

  values_never : (values : List Value) → AllByRecursion (NeverAnswers fault) (map value_meaning values)
  values_never [] = tt
  values_never (v ∷ values) = (value_never v, values_never values)

not_met : (fault : PrintfError) (elements : List FormatElement) (values : List Value) → fault ≢ CauseWrongType → fault ≢ CauseNotEnoughArgs → fault ≢ CauseTooManyArgs → printed elements (map value_meaning values) ≢ Err fault
not_met fault elements values no_type no_lack no_excess =
    takes_faults_from_values fault elements (map value_meaning values) no_type no_lack no_excess (All-from_recursion (NeverAnswers fault) (map value_meaning values) (values_never fault no_type values))

-- a fault of a printf format over values is one of the three that are told
pub fault_is_carried : (elements : List FormatElement) (values : List Value) (cause : PrintfError) → printed elements (map value_meaning values) ≡ Err cause → IsCarriedFault cause
fault_is_carried elements values CauseWrongType e = (WrongType, refl)
fault_is_carried elements values CauseTooManyArgs e = (TooManyArgs, refl)
fault_is_carried elements values CauseNotEnoughArgs e = (NotEnoughArgs, refl)
fault_is_carried elements values ParseError e = absurd (not_met ParseError elements values (λ h. cc) (λ h. cc) (λ h. cc) e)
fault_is_carried elements values Unknown e = absurd (not_met Unknown elements values (λ h. cc) (λ h. cc) (λ h. cc) e)
fault_is_carried elements values NoMemory e = absurd (not_met NoMemory elements values (λ h. cc) (λ h. cc) (λ h. cc) e)
