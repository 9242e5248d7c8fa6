-- A template prints one thing over values, and words tell dialects apart.
use Rattle.std.proofs.Common.{◌≡◌, inl, inr, ℕ, List, true, get_or, arith, refl, sym, ap, ◌∙◌, subst, Result, Ok, Err}
use Rattle.sprintf.specs.Grammar.{IsFormat}
use Rattle.sprintf.specs.Meaning.{Meaning}
use Rattle.sprintf.specs.Text.{printed}
use Rattle.sprintf.specs.declared.PrintfError.{PrintfError}
use Rattle.sprintf.specs.declared.PrintfError.TheVariants.{ParseError, WrongType, TooManyArgs, NotEnoughArgs, Unknown, NoMemory}
use Rattle.sprintf.specs.declared.parser.FormatElement.{FormatElement}
use Rattle.sprintf.proofs.Uniqueness.{one_value}
use Rattle.strfmt.proofs.CutUnique.{prints_once as strfmt_once}
use Rattle.formatx.proofs.ReadingLemmas as formatx_lemma
use Rattle.formatx.specs.Fault.{Fault}
use Rattle.formatx.specs.Scene.{Scene}
use Rattle.formatx.specs.Text.{Prints as FormatxPrints, rendered, whole}
use Rattle.formatx.specs.declared.ast.Segment.{Segment}
use Rattle.values.specs.declared.kind.Kind.{Kind}
use Rattle.values.specs.Datum.{Datum, each_of, printf_meaning}
use Rattle.values.specs.Templates.{strfmt_meaning, formatx_meaning}
use Rattle.printer.specs.declared.dialect.Dialect.{Dialect}
use Rattle.printer.specs.declared.dialect.Dialect.TheVariants.{Printf, Strfmt, Formatx}
use Rattle.printer.specs.declared.error.RenderFault.{RenderFault}
use Rattle.printer.specs.Fault.{IsPrintfFault, strfmt_told, formatx_told}
use Rattle.printer.specs.Laws.{PrintsOnce, DialectWordsDiffer}
use Rattle.printer.specs.Text.{PrintsBy, named_from, value_at_key}

-- ---- printf

-- the printed text or fault is told so
abbrev Says : Result (List ℕ) PrintfError → Result (List ℕ) RenderFault → Type 0
Says printed_text (Ok text) = printed_text ≡ Ok text
Says printed_text (Err fault) = (cause : PrintfError) × (printed_text ≡ Err cause) × IsPrintfFault cause fault

told_once : (cause : PrintfError) (one other : RenderFault) → IsPrintfFault cause one → IsPrintfFault cause other → one ≡ other
told_once WrongType one other a b = a ∙ sym b
told_once TooManyArgs one other a b = a ∙ sym b
told_once NotEnoughArgs one other a b = a ∙ sym b
told_once ParseError one other a b = absurd a
told_once Unknown one other a b = absurd a
told_once NoMemory one other a b = absurd a

says_once : (r : Result (List ℕ) PrintfError) (one other : Result (List ℕ) RenderFault) → Says r one → Says r other → one ≡ other
says_once r (Ok s) (Ok t) a b = ap (λ (text : List ℕ). let o : Result (List ℕ) RenderFault = Ok text in o) (let e : s ≡ t = cc in e)
says_once r (Ok s) (Err f) a b = let e : r ≡ Err b.0 = b.1 in absurd (cc)
says_once r (Err f) (Ok t) a b = let e : r ≡ Err a.0 = a.1 in absurd (cc)
says_once r (Err f) (Err g) (cause, a, told) (other, b, told') =
    let same : other ≡ cause = cc in
    ap (λ (fault : RenderFault). let o : Result (List ℕ) RenderFault = Err fault in o) (told_once cause f g told (subst (λ (c : PrintfError). IsPrintfFault c g) same told'))

module _ (template : List ℕ) (names : List (List ℕ)) (kinds : List Kind) (values : List Datum) where
  abbrev meanings : List Meaning
  meanings = each_of printf_meaning kinds values

  printf_says : (o : Result (List ℕ) RenderFault) → PrintsBy Printf template names kinds values o → (elements : List FormatElement) × IsFormat template elements × Says (printed elements meanings) o
  printf_says (Ok text) h = h
  printf_says (Err fault) (cause, inl none, told) = absurd (subst (λ (c : PrintfError). IsPrintfFault c fault) none.1 told)
  printf_says (Err fault) (cause, inr it, told) = (it.0, it.1, (cause, it.2, told))

  printf_once : (one other : Result (List ℕ) RenderFault) → PrintsBy Printf template names kinds values one → PrintsBy Printf template names kinds values other → one ≡ other
  printf_once one other a b =
      let x = printf_says one a in
      let y = printf_says other b in
      says_once (printed x.0 meanings) one other x.2 (subst (λ (r : Result (List ℕ) PrintfError). Says r other) (one_value template y.0 x.0 meanings y.1 x.1) y.2)

-- ---- formatx

formatx_once : (scene : Scene) (one other : Result (List ℕ) Fault) → FormatxPrints scene one → FormatxPrints scene other → one ≡ other
formatx_once scene one other a b =
    let reading = formatx_lemma.one_reading scene.source (Ok a.0) (Ok b.0) a.1 b.1 in
    let same : a.0 ≡ b.0 = cc reading in
    sym a.2 ∙ ap (λ (segments : List Segment). whole (rendered scene 0 segments)) same ∙ b.2

-- ---- the laws

prints_by_once : (dialect : Dialect) (template : List ℕ) (names : List (List ℕ)) (kinds : List Kind) (values : List Datum) (one other : Result (List ℕ) RenderFault)
    → PrintsBy dialect template names kinds values one → PrintsBy dialect template names kinds values other → one ≡ other
prints_by_once Printf template names kinds values one other a b = printf_once template names kinds values one other a b
prints_by_once Strfmt template names kinds values one other a b =
    a.2 ∙ ap strfmt_told (strfmt_once (value_at_key 0 names (each_of strfmt_meaning kinds values)) template a.0 b.0 a.1 b.1) ∙ sym b.2
prints_by_once Formatx template names kinds values one other a b =
    a.2 ∙ ap formatx_told (formatx_once (record { source = template; values = each_of formatx_meaning kinds values; names = named_from 0 names; strict = true }) a.0 b.0 a.1 b.1) ∙ sym b.2

pub prints_once : PrintsOnce
prints_once p kinds values one other a b = prints_by_once p.dialect p.template p.names kinds values one other a b

pub dialect_words_differ : DialectWordsDiffer
dialect_words_differ Printf Printf e = refl
dialect_words_differ Strfmt Strfmt e = refl
dialect_words_differ Formatx Formatx e = refl
dialect_words_differ Printf Strfmt e = absurd (omega (arith, ap (λ (t : List ℕ). get_or t 0 0) e))
dialect_words_differ Printf Formatx e = absurd (omega (arith, ap (λ (t : List ℕ). get_or t 0 0) e))
dialect_words_differ Strfmt Printf e = absurd (omega (arith, ap (λ (t : List ℕ). get_or t 0 0) e))
dialect_words_differ Strfmt Formatx e = absurd (omega (arith, ap (λ (t : List ℕ). get_or t 0 0) e))
dialect_words_differ Formatx Printf e = absurd (omega (arith, ap (λ (t : List ℕ). get_or t 0 0) e))
dialect_words_differ Formatx Strfmt e = absurd (omega (arith, ap (λ (t : List ℕ). get_or t 0 0) e))
