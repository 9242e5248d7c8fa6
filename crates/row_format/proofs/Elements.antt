-- Columns grow element by element.
use Rattle.std.proofs.lemmas.List.{append-nil, take_rest}
use Rattle.std.proofs.Common.{◌≡◌, ◌≤◌, ◌++◌, ℕ, length, take, drop, ◌-◌, get_or, arith, Bool, true, false, if◌then◌else◌, List, [], ◌∷◌, codes, None, Some, refl, ap, sym, ◌∙◌, append_assoc}
use Rattle.sprintf.specs.declared.parser.FormatElement.{FormatElement}
use Rattle.sprintf.specs.declared.parser.FormatElement.TheVariants.{Verbatim, Format}
use Rattle.row_format.specs.Columns.{Column, Columns, is_percent, with_text, columns_of}
use Rattle.row_format.specs.Laws.{AreTexts}
use Rattle.row_format.specs.Inner.Elements.{literal_of, BeginsWithField, column_of, with_field}

pub text_onto_text : (a b : List ℕ) (format : Columns) → with_text a (with_text b format) ≡ with_text (a ++ b) format
text_onto_text a b format = ap (λ (head : List ℕ). record { head = head; columns = format.columns }) (sym (append_assoc a b format.head))

pub no_text : (format : Columns) → with_text [] format ≡ format
no_text format = refl

pub literal_in_front : (e : FormatElement) (es : List FormatElement) (text : List ℕ) → literal_of e ≡ Some text → columns_of (e ∷ es) ≡ with_text text (columns_of es)
literal_in_front (Verbatim s) es text h = let same : s.now ≡ text = cc in ap (λ (t : List ℕ). with_text t (columns_of es)) same
literal_in_front (Format f) es text h =
    elim (is_percent f.conversion_type) as (λ (b : Bool). (if b then Some (codes "%") else None) ≡ Some text → (if b then with_text (codes "%") (columns_of es) else with_field f (columns_of es)) ≡ with_text text (columns_of es)) [
      | true ↦ λ (k : Some (codes "%") ≡ Some text). let same : codes "%" ≡ text = cc in ap (λ (t : List ℕ). with_text t (columns_of es)) same
      | false ↦ λ (k : None ≡ Some text). cc
    ] h

-- before a field stands no literal text
pub no_head : (es : List FormatElement) → BeginsWithField es → (columns_of es).head ≡ []
no_head [] h = refl
no_head (Verbatim s ∷ es) h = cc
no_head (Format f ∷ es) h =
    elim (is_percent f.conversion_type) as (λ (b : Bool). (if b then Some (codes "%") else None) ≡ None → (if b then with_text (codes "%") (columns_of es) else with_field f (columns_of es)).head ≡ []) [
      | true ↦ λ (k : Some (codes "%") ≡ None). cc
      | false ↦ λ k. refl
    ] h

-- a field in front has the literal text behind it
pub field_in_front : (e : FormatElement) (es rest : List FormatElement) (more : List ℕ) → literal_of e ≡ None → columns_of es ≡ with_text more (columns_of rest) → BeginsWithField rest
    → columns_of (e ∷ es) ≡ record { head = []; columns = column_of e more ++ (columns_of rest).columns }
field_in_front (Verbatim s) es rest more h k so = cc
field_in_front (Format f) es rest more h k so =
    elim (is_percent f.conversion_type) as (λ (b : Bool). (if b then Some (codes "%") else None) ≡ None → (if b then with_text (codes "%") (columns_of es) else with_field f (columns_of es)) ≡ record { head = []; columns = column_of (Format f) more ++ (columns_of rest).columns }) [
      | true ↦ λ (n : Some (codes "%") ≡ None). cc
      | false ↦ λ n. rw k (ap (λ (after : List ℕ). record { head = []; columns = record { field = f; after = after } ∷ (columns_of rest).columns }) (ap (λ (t : List ℕ). more ++ t) (no_head rest so) ∙ append-nil more))
    ] h

pub texts_of_both : (a b : List Column) → AreTexts a → AreTexts b → AreTexts (a ++ b)
texts_of_both [] b h k = k
texts_of_both (c ∷ a) b h k = (h.0, h.1, texts_of_both a b h.2 k)

-- the field in front and its literal text join the columns so far
pub one_more : (head : List ℕ) (done : List Column) (all left rest : List FormatElement) (none : FormatElement) (more text : List ℕ) → columns_of all ≡ record { head = head; columns = done ++ (columns_of left).columns }
    → BeginsWithField left → 1 ≤ length left → columns_of (take (length left - 1) (drop 1 left)) ≡ with_text more (columns_of rest) → BeginsWithField rest → text ≡ more
    → columns_of all ≡ record { head = head; columns = (done ++ column_of (get_or left 0 none) text) ++ (columns_of rest).columns }
one_more head done all [] rest none more text so field some next behind same = absurd (omega arith)
one_more head done all (e ∷ es) rest none more text so field some next behind same =
    so ∙ ap (λ (cs : List Column). record { head = head; columns = cs }) (
    ap (λ (format : Columns). done ++ format.columns) (field_in_front e es rest more field (ap columns_of (sym (take_rest (e ∷ es) 1)) ∙ next) behind)
    ∙ sym (append_assoc done (column_of e more) (columns_of rest).columns)
    ∙ ap (λ (t : List ℕ). (done ++ column_of e t) ++ (columns_of rest).columns) (sym same)
    )
