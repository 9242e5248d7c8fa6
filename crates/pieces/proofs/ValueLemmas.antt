-- The values of tokens, one by one.
use Rattle.std.proofs.Common.{◌≡◌, ℕ, zero, suc, List, [], ◌∷◌, length, drop, refl, ap, subst, slice_get, Option, Some}
use Rattle.values.specs.declared.kind.Kind.{Kind}
use Rattle.values.specs.Datum.{Datum, each_of}
use Rattle.tokens.specs.declared.Token.{Token}
use Rattle.tokens.specs.Tokens.{AreTokens, IsToken, data_of, datum_at}

-- the token at a place, and the values from there on
pub record Here {A : Type 0} (meaning : Kind → Datum → A) (kinds : List Kind) (row : List ℕ) (tokens : List Token) (place : ℕ) (kind : Kind) : Type 0 where
  pub token : Token
  pub at : slice_get tokens place ≡ Some token
  pub is : IsToken kind row token
  pub from : drop place (each_of meaning kinds (data_of kinds row tokens)) ≡ meaning kind (datum_at kind row token) ∷ drop (suc place) (each_of meaning kinds (data_of kinds row tokens))
  pub value : slice_get (each_of meaning kinds (data_of kinds row tokens)) place ≡ Some (meaning kind (datum_at kind row token))

some_is : {A : Type 0} (a b : A) → ◌≡◌ {A = Option A} (Some a) (Some b) → a ≡ b
some_is a b e = cc

pub here : {A : Type 0} (meaning : Kind → Datum → A) (kinds : List Kind) (row : List ℕ) (tokens : List Token) (place : ℕ) (kind : Kind) → AreTokens kinds row tokens → slice_get kinds place ≡ Some kind → Here meaning kinds row tokens place kind
here meaning [] row tokens place kind are at = cc
here meaning (k ∷ kinds) row [] place kind are at = absurd are
here meaning (k ∷ kinds) row (t ∷ tokens) zero kind are at =
    let same : k ≡ kind = some_is k kind at in
    record {
      token = t;
      at = refl;
      is = subst (λ (x : Kind). IsToken x row t) same are.0;
      from = ap (λ (x : Kind). meaning x (datum_at x row t) ∷ each_of meaning kinds (data_of kinds row tokens)) same;
      value = ap (λ (x : Kind). Some (meaning x (datum_at x row t))) same;
    }
here meaning (k ∷ kinds) row (t ∷ tokens) (suc place) kind are at =
    let rest = here meaning kinds row tokens place kind are.1 at in
    record { token = rest.token; at = rest.at; is = rest.is; from = rest.from; value = rest.value }

-- there are no more values than kinds
pub none_left : {A : Type 0} (meaning : Kind → Datum → A) (kinds : List Kind) (row : List ℕ) (tokens : List Token) → drop (length kinds) (each_of meaning kinds (data_of kinds row tokens)) ≡ []
none_left meaning [] row tokens = refl
none_left meaning (k ∷ kinds) row [] = refl
none_left meaning (k ∷ kinds) row (t ∷ tokens) = none_left meaning kinds row tokens
