-- Values that rows have as they are printed.
use Rattle.std.proofs.Common.{◌≡◌, ℕ, zero, suc, ◌+◌, ◌<◌, List, [], ◌∷◌, ◌++◌, length, get_or, drop, refl, sym, ap, subst, ◌∙◌, slice_get, Option, Some, append-nil, append_assoc}
use Rattle.values.specs.declared.kind.Kind.{Kind}
use Rattle.row_format.specs.Columns.{Column}
use Rattle.row_format.specs.Inner.Elements.{text_or_none}
use Rattle.tokens.specs.declared.Token.{Token}
use Rattle.tokens.specs.Tokens.{AreTokens, IsToken}
use Rattle.columns.specs.Fields.{AreFieldsAt, IsFieldAt}
use Rattle.pieces.specs.declared.layout.Form.{Form}
use Rattle.pieces.specs.declared.layout.Form.TheVariants.{Copied, Signed, WithoutPlus}
use Rattle.pieces.specs.Inner.Layout.{Part, form_of, part_text, parts_text, text_where, without_plus}
use Rattle.pieces.specs.Inner.Printf.{HasFormUnder, IsPlusNumber}
use Rattle.pieces.specs.Inner.Copied.{AreSame, IsSamePart, IsSameValue}
use Rattle.pieces.proofs.LayoutLemmas.{parts_text-step, parts_text-append}
use Rattle.pieces.proofs.PrintfLemmas.{plus_told}

some_is : {A : Type 0} (a b : A) → ◌≡◌ {A = Option A} (Some a) (Some b) → a ≡ b
some_is a b e = cc

-- the token at a place, which is of the kind there and stands where the field there does
record Here (columns : List Column) (row : List ℕ) (tokens : List Token) (place : ℕ) (kind : Kind) (column : Column) : Type 0 where
  token : Token
  at : slice_get tokens place ≡ Some token
  is : IsToken kind row token
  field : IsFieldAt column kind row token

field_here : (columns : List Column) (kinds : List Kind) (row : List ℕ) (tokens : List Token) (place : ℕ) (kind : Kind) (column : Column)
    → AreTokens kinds row tokens → AreFieldsAt columns kinds row tokens → slice_get kinds place ≡ Some kind → slice_get columns place ≡ Some column → Here columns row tokens place kind column
field_here [] kinds row tokens place kind column are fields at there = cc
field_here (c ∷ columns) [] row tokens place kind column are fields at there = cc
field_here (c ∷ columns) (k ∷ kinds) row [] place kind column are fields at there = absurd are
field_here (c ∷ columns) (k ∷ kinds) row (t ∷ tokens) zero kind column are fields at there =
    let same : k ≡ kind = some_is k kind at in
    record {
      token = t;
      at = refl;
      is = subst (λ (x : Kind). IsToken x row t) same are.0;
      field = subst (λ (x : Column). IsFieldAt x kind row t) (some_is c column there) (subst (λ (x : Kind). IsFieldAt c x row t) same fields.0);
    }
field_here (c ∷ columns) (k ∷ kinds) row (t ∷ tokens) (suc place) kind column are fields at there =
    let h = field_here columns kinds row tokens place kind column are.1 fields.1 at there in
    record { token = h.token; at = h.at; is = h.is; field = h.field }

-- a value that its field prints in a form stands in the row as it is printed in that form
pub stands : (columns : List Column) (kinds : List Kind) (place : ℕ) (form : Form) (column : Column) → HasFormUnder column.field kinds place form → slice_get columns place ≡ Some column → IsSameValue columns kinds place form Copied
stands columns kinds place form column has there row tokens are fields =
    let h = field_here columns kinds row tokens place has.0 column are fields has.1 there in
    ap (λ (o : Option Token). text_where Copied row o) h.at
    ∙ h.field.text
    ∙ ap text_or_none (has.2.prints row h.token h.is)
    ∙ sym (ap (λ (o : Option Token). text_where form row o) h.at)

-- a number with a sign is printed plainly as it stands in the row without its plus sign
pub stands_signed : (columns : List Column) (kinds : List Kind) (place : ℕ) (kind : Kind) (column : Column) → slice_get kinds place ≡ Some kind → form_of kind ≡ Some Signed → IsPlusNumber column.field → slice_get columns place ≡ Some column → IsSameValue columns kinds place Signed WithoutPlus
stands_signed columns kinds place kind column at signed plus there row tokens are fields =
    let h = field_here columns kinds row tokens place kind column are fields at there in
    ap (λ (o : Option Token). text_where WithoutPlus row o) h.at
    ∙ ap without_plus h.field.text
    ∙ plus_told kind column.field row h.token signed plus
    ∙ sym (ap (λ (o : Option Token). text_where Signed row o) h.at)

-- the part of a value that is the same
pub part_of : (columns : List Column) (kinds : List Kind) (before : List ℕ) (form other : Form) (place : ℕ) → IsSameValue columns kinds place form other
    → IsSamePart columns kinds (record { before = before; form = form; place = place }) (record { before = before; form = other; place = place })
part_of columns kinds before form other place same row tokens are fields = ap (λ (t : List ℕ). before ++ t) (same row tokens are fields)

-- one part more
pub further : (columns : List Column) (kinds : List Kind) (parts done : List Part) (index : ℕ) (part other : Part) → index < length parts → part ≡ get_or parts index part → IsSamePart columns kinds part other
    → AreSame columns kinds (parts_text parts) (λ row tokens. parts_text done row tokens ++ parts_text (drop index parts) row tokens)
    → AreSame columns kinds (parts_text parts) (λ row tokens. parts_text (done ++ other ∷ []) row tokens ++ parts_text (drop (index + 1) parts) row tokens)
further columns kinds parts done index part other h e same before row tokens are fields =
    let rest : List ℕ = parts_text (drop (index + 1) parts) row tokens in
    let front : List ℕ = parts_text done row tokens in
    ap (λ (t : List ℕ). t ++ rest) (parts_text-append done (other ∷ []) row tokens)
    ∙ ap (λ (t : List ℕ). (front ++ t) ++ rest) (append-nil (part_text other row tokens) ∙ same row tokens are fields)
    ∙ append_assoc front (part_text part row tokens) rest
    ∙ ap (λ (t : List ℕ). front ++ t) (sym (parts_text-step parts index part row tokens h e))
    ∙ before row tokens are fields
