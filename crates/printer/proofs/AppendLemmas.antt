-- What private calls append is what the printer prints.
use Rattle.std.proofs.Common.{◌≡◌, ◌⊎◌, inl, inr, ℕ, List, ◌++◌, map, refl, sym, ap, ◌∙◌, subst, true, Result, Ok, Err, Option}
use Rattle.std.specs.Prelude.{IsUtf8}
use Rattle.std.specs.Borrow.{MutBor}
use Rattle.std.specs.Fn.{Mut, CalledAtMut}
use Rattle.numerals.specs.Answer.{AppendsAnswer}
use Rattle.sprintf.specs.Meaning.{Meaning as PrintfMeaning}
use Rattle.sprintf.specs.Text.{printed}
use Rattle.sprintf.specs.declared.PrintfError.{PrintfError}
use Rattle.sprintf.specs.declared.PrintfError.TheVariants.{NoMemory as PrintfNoMemory}
use Rattle.sprintf.specs.declared.parser.FormatElement.{FormatElement}
use Rattle.strfmt.specs.Spec.{View}
use Rattle.strfmt.specs.Text.{Meaning, IsPrinted, filled_by}
use Rattle.strfmt.specs.Values.{Displays}
use Rattle.strfmt.specs.Walk.{IsWalk}
use Rattle.strfmt.specs.declared.types.FmtError.{FmtError}
use Rattle.strfmt.specs.declared.types.FmtError.TheVariants.{NoMemory as StrfmtNoMemory}
use Rattle.strfmt.proofs.PrintLemmas as strfmt_lemma
use Rattle.formatx.specs.Fault.{Fault as FormatxFault, Tells}
use Rattle.formatx.specs.Scene.{Scene, named, scene_over}
use Rattle.formatx.specs.Text.{Prints as FormatxPrints, AppendsPrinted}
use Rattle.formatx.specs.Values.{Meaning as FormatxMeaning}
use Rattle.formatx.specs.declared.error.Error.{Error}
use Rattle.values.specs.declared.kind.Kind.{Kind}
use Rattle.values.specs.declared.value.Value.{Value}
use Rattle.values.specs.Datum.{Datum, each_of, kind_of, datum_of, printf_meaning, value_meaning}
use Rattle.values.specs.Templates.{strfmt_meaning, formatx_meaning, value_format}
use Rattle.printer.specs.declared.dialect.Dialect.TheVariants.{Strfmt, Formatx}
use Rattle.printer.specs.declared.error.RenderFault.{RenderFault}
use Rattle.printer.specs.declared.error.TextError.{TextError}
use Rattle.printer.specs.declared.error.TextError.TheVariants.{Fault as TextFault, NoMemory as NoRoom}
use Rattle.printer.specs.Fault.{strfmt_told, IsPrintfFault}
use Rattle.printer.specs.Text.{PrintsBy, named_from, value_at_key}
use Rattle.printer.specs.Inner.Appending.{AppendsWhere, ElementsPrint, IsCarriedFault, TellsPrintf, TellsStrfmt, TellsFormatx}
use Rattle.printer.proofs.ValueLemmas.{each_value, fault_is_carried}

-- ---- printf

module _ (elements : List FormatElement) (values : List Value) where
  abbrev value_kinds : List Kind
  value_kinds = map kind_of values

  abbrev value_data : List Datum
  value_data = map datum_of values

  abbrev own : Result (List ℕ) PrintfError
  own = printed elements (map value_meaning values)

  same_values : own ≡ printed elements (each_of printf_meaning value_kinds value_data)
  same_values = ap (λ (ms : List PrintfMeaning). printed elements ms) (each_value printf_meaning values)

  -- the refusal of the call is one that is told
  pub printf_refusal : (old new : List ℕ) (error : PrintfError) → AppendsAnswer {U = Unit {0}} PrintfNoMemory own old new (Err error) → IsCarriedFault error ⊎ (error ≡ PrintfNoMemory)
  printf_refusal old new error (inl e, same) = inl (fault_is_carried elements values error e)
  printf_refusal old new error (inr memory, same) = inr memory

  pub printf_text : (old new : List ℕ) (done : Unit {0}) → AppendsAnswer PrintfNoMemory own old new (Ok done) → AppendsWhere (ElementsPrint elements value_kinds value_data) old new (Ok tt)
  printf_text old new done h = (h.0, sym same_values ∙ h.1, h.2)

  pub printf_fault : (old new : List ℕ) (error : PrintfError) (told : TextError) → AppendsAnswer {U = Unit {0}} PrintfNoMemory own old new (Err error) → TellsPrintf error told → AppendsWhere (ElementsPrint elements value_kinds value_data) old new (Err told)
  printf_fault old new error NoRoom h tells = h.1
  printf_fault old new error (TextFault fault) (inl e, same) tells = ((error, sym same_values ∙ e, tells), same)
  printf_fault old new error (TextFault fault) (inr memory, same) tells = absurd (subst (λ (e : PrintfError). IsPrintfFault e fault) memory tells)

-- ---- strfmt

module _ (text : List ℕ) (names : List (List ℕ)) (values : List Value) (utf8 : IsUtf8 text) where
  abbrev pub meanings : List ℕ → Option Meaning
  meanings key = value_at_key 0 names (each_of strfmt_meaning (map kind_of values) (map datum_of values)) key

  abbrev StrfmtSays : Result (List ℕ) RenderFault → Type 0
  StrfmtSays outcome = PrintsBy Strfmt text names (map kind_of values) (map datum_of values) outcome

  strfmt_says : (told : List ℕ) → IsPrinted (λ (t : List ℕ). t) meanings text (Ok told) → StrfmtSays (Ok told)
  strfmt_says told h = (h.0, h.1, ap strfmt_told (sym h.2))

  strfmt_refuses : (error : FmtError) (told : RenderFault) → IsPrinted (λ (t : List ℕ). t) meanings text (Err error) → TellsStrfmt error (TextFault told) → StrfmtSays (Err told)
  strfmt_refuses error told (outcome, prints, inl it) tells = (outcome, prints, sym (tells.1 it.0 it.2) ∙ ap strfmt_told (sym it.1))
  strfmt_refuses error told (outcome, prints, inr memory) tells = absurd (tells.0 memory)

  module _ {F : Type 0} (g : Mut F (MutBor View × Unit {0}) (Result (Unit {0}) FmtError × (MutBor View × Unit {0}))) (f : F)
      (each : (view left : View) (answer : Result (Unit {0}) FmtError) (f' : F) → CalledAtMut g f view answer f' left → (f' ≡ f) × Displays (filled_by (meanings view.key) view) view answer left) where
    pub strfmt_text : (last : F) (old new : List ℕ) → ((told : List ℕ) × IsWalk g f text (Ok told) last × (new ≡ old ++ told)) → AppendsWhere StrfmtSays old new (Ok tt)
    strfmt_text last old new (told, walk, grown) = (told, strfmt_says told (strfmt_lemma.printed g f meanings each (λ (t : List ℕ). t) text (Ok told) utf8 (last, walk) tt), grown)

    pub strfmt_fault : (last : F) (old new : List ℕ) (error : FmtError) (told : TextError) → (error ≡ StrfmtNoMemory) ⊎ IsWalk g f text (Err error) last → new ≡ old → TellsStrfmt error told → AppendsWhere StrfmtSays old new (Err told)
    strfmt_fault last old new error NoRoom h same tells = same
    strfmt_fault last old new error (TextFault fault) (inl memory) same tells = absurd (tells.0 memory)
    strfmt_fault last old new error (TextFault fault) (inr walk) same tells =
        (strfmt_refuses error fault (strfmt_lemma.printed g f meanings each (λ (t : List ℕ). t) text (Err error) utf8 tt (inr (last, walk))) tells, same)

-- ---- formatx

module _ (text : List ℕ) (names : List (List ℕ)) (values : List Value) (positions : List (List ℕ × ℕ)) (in_place : named positions ≡ named_from 0 names) where
  abbrev scene : Scene
  scene = scene_over value_format text values positions true

  abbrev FormatxSays : Result (List ℕ) RenderFault → Type 0
  FormatxSays outcome = PrintsBy Formatx text names (map kind_of values) (map datum_of values) outcome

  same_scene : (r : Result (List ℕ) FormatxFault) → FormatxPrints scene r
      → FormatxPrints (record { source = text; values = each_of formatx_meaning (map kind_of values) (map datum_of values); names = named_from 0 names; strict = true }) r
  same_scene r h =
      subst (λ (ns : List ℕ → Option ℕ). FormatxPrints (record { source = text; values = each_of formatx_meaning (map kind_of values) (map datum_of values); names = ns; strict = true }) r) in_place
      (subst (λ (ms : List FormatxMeaning). FormatxPrints (record { source = text; values = ms; names = named positions; strict = true }) r) (each_value formatx_meaning values) h)

  pub formatx_text : (old new : List ℕ) → AppendsPrinted scene old new → AppendsWhere FormatxSays old new (Ok tt)
  formatx_text old new (told, prints, grown) = (told, (Ok told, same_scene (Ok told) prints, refl), grown)

  pub formatx_fault : (old new : List ℕ) (error : Error) (told : TextError) → Tells error (λ fault. FormatxPrints scene (Err fault)) → new ≡ old → TellsFormatx error told → AppendsWhere FormatxSays old new (Err told)
  formatx_fault old new error NoRoom h same tells = same
  formatx_fault old new error (TextFault fault) (inl it) same tells = ((Err it.0, same_scene (Err it.0) it.1, sym (tells.1 it.0 it.2)), same)
  formatx_fault old new error (TextFault fault) (inr memory) same tells = absurd (tells.0 memory)
