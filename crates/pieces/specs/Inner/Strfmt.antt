-- A strfmt text, front by front.
use Rattle.std.specs.Prelude.{◌≡◌, ◌≢◌, ◌<◌, ℕ, List, [], ◌∷◌, ◌++◌, length, ⊤, Option, Some, None, Ok}
use Rattle.std.specs.Str.{byte}
use Rattle.strfmt.specs.Grammar.{Piece, IsCut}
use Rattle.strfmt.specs.Text.{Meaning, joined, then_next}
use Rattle.values.specs.declared.kind.Kind.{Kind}
use Rattle.values.specs.Datum.{each_of}
use Rattle.values.specs.Templates.{strfmt_meaning}
use Rattle.printer.specs.Keys.{IsPlaceAtKey}
use Rattle.printer.specs.Text.{value_at_key}
use Rattle.tokens.specs.declared.Token.{Token}
use Rattle.tokens.specs.Tokens.{AreTokens, data_of}
use Rattle.pieces.specs.Inner.Layout.{Parts, layout_text}

-- What the keys mean over the values of a row.
abbrev pub meanings : List (List ℕ) → List Kind → List ℕ → List Token → List ℕ → Option Meaning
meanings names kinds row tokens key = value_at_key 0 names (each_of strfmt_meaning kinds (data_of kinds row tokens)) key

-- No brace and no colon is in the text.
abbrev pub HasNoMark : List ℕ → Type 0
HasNoMark [] = ⊤
HasNoMark (b ∷ bs) = (b ≢ byte "{") × (b ≢ byte "}") × (b ≢ byte ":") × HasNoMark bs

-- The text is the key of this place, without a specification, a closing brace and the rest.
pub record BeginsWithKey (names : List (List ℕ)) (place : ℕ) (text rest : List ℕ) : Type 0 where
  pub key : List ℕ
  pub plain : HasNoMark key
  pub some : 0 < length key
  pub at : IsPlaceAtKey names key (Some place)
  pub whole : text ≡ key ++ byte "}" ∷ rest

-- Each cut of what is left goes on to a cut of the text, whose text is that of the layout and then what is left prints.
abbrev pub GoesOn : List (List ℕ) → List Kind → Parts → List ℕ → Parts → List ℕ → List ℕ → List Token → List Piece → Type 0
GoesOn names kinds old text new rest row tokens pieces =
    (before : List Piece) × IsCut before None text
    × (then_next (Ok (layout_text old row tokens)) (joined (meanings names kinds row tokens) before None) ≡ then_next (Ok (layout_text new row tokens)) (joined (meanings names kinds row tokens) pieces None))

-- A step takes the front of a text into the layout, and leaves what is printed as it is.
abbrev pub Moves : List (List ℕ) → List Kind → Parts → List ℕ → Parts → List ℕ → Type 0
Moves names kinds old text new rest = (row : List ℕ) (tokens : List Token) (pieces : List Piece) → AreTokens kinds row tokens → IsCut pieces None rest → GoesOn names kinds old text new rest row tokens pieces

-- So much of the text is in the layout.
abbrev pub IsInPart : List (List ℕ) → List Kind → List ℕ → Parts → List ℕ → Type 0
IsInPart names kinds template layout rest = (row : List ℕ) (tokens : List Token) (pieces : List Piece) → AreTokens kinds row tokens → IsCut pieces None rest
    → (before : List Piece) × IsCut before None template
    × (joined (meanings names kinds row tokens) before None ≡ then_next (Ok (layout_text layout row tokens)) (joined (meanings names kinds row tokens) pieces None))
