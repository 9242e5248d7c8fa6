-- The text of a layout, part by part.
use Rattle.std.proofs.Common.{◌≡◌, ℕ, zero, suc, ◌+◌, ◌<◌, List, [], ◌∷◌, ◌++◌, length, get_or, drop, refl, sym, ap, ◌∙◌, slice_get, IfSome, add-one, drop-cons, append-nil, append_assoc}
use Rattle.values.specs.declared.kind.Kind.{Kind}
use Rattle.tokens.specs.declared.Token.{Token}
use Rattle.tokens.specs.Tokens.{AreTokens}
use Rattle.pieces.specs.declared.layout.Form.{Form}
use Rattle.pieces.specs.Inner.Layout.{AreTokensOfSome, IsTokenOfSome, Part, parts_text, part_text, text_where}

-- the part in front
pub parts_text-step : (ps : List Part) (i : ℕ) (p : Part) (row : List ℕ) (tokens : List Token) → i < length ps → p ≡ get_or ps i p → parts_text (drop i ps) row tokens ≡ part_text p row tokens ++ parts_text (drop (i + 1) ps) row tokens
parts_text-step ps i p row tokens h e = rw (drop-cons ps i p, add-one, ← e) refl

pub parts_text-append : (ps qs : List Part) (row : List ℕ) (tokens : List Token) → parts_text (ps ++ qs) row tokens ≡ parts_text ps row tokens ++ parts_text qs row tokens
parts_text-append [] qs row tokens = refl
parts_text-append (p ∷ ps) qs row tokens = ap (λ (t : List ℕ). part_text p row tokens ++ t) (parts_text-append ps qs row tokens) ∙ sym (append_assoc (part_text p row tokens) (parts_text ps row tokens) (parts_text qs row tokens))

-- literal text behind the last part
pub with_text : (ps : List Part) (tail text : List ℕ) (row : List ℕ) (tokens : List Token) → parts_text ps row tokens ++ (tail ++ text) ≡ (parts_text ps row tokens ++ tail) ++ text
with_text ps tail text row tokens = sym (append_assoc (parts_text ps row tokens) tail text)

-- a value behind the literal text
pub with_value : (ps : List Part) (tail : List ℕ) (form : Form) (place : ℕ) (row : List ℕ) (tokens : List Token) → parts_text (ps ++ record { before = tail; form = form; place = place } ∷ []) row tokens ++ [] ≡ (parts_text ps row tokens ++ tail) ++ text_where form row (slice_get tokens place)
with_value ps tail form place row tokens =
    let p : Part = record { before = tail; form = form; place = place } in
    append-nil (parts_text (ps ++ p ∷ []) row tokens)
    ∙ parts_text-append ps (p ∷ []) row tokens
    ∙ ap (λ (t : List ℕ). parts_text ps row tokens ++ t) (append-nil (part_text p row tokens))
    ∙ sym (append_assoc (parts_text ps row tokens) tail (text_where form row (slice_get tokens place)))

-- the token at a place is a token of some kind
token_of : (kinds : List Kind) (row : List ℕ) (tokens : List Token) (place : ℕ) → AreTokens kinds row tokens → IfSome (slice_get tokens place) (IsTokenOfSome row)
token_of kinds row [] place are = tt
token_of [] row (t ∷ tokens) place are = absurd are
token_of (kind ∷ kinds) row (t ∷ tokens) zero are = (kind, are.0)
token_of (kind ∷ kinds) row (t ∷ tokens) (suc place) are = token_of kinds row tokens place are.1

pub token_where : (row : List ℕ) (tokens : List Token) (place : ℕ) → AreTokensOfSome row tokens → IfSome (slice_get tokens place) (IsTokenOfSome row)
token_where row tokens place are = token_of are.0 row tokens place are.1
