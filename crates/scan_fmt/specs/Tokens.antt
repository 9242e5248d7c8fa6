-- The tokens that are left, and what a typed reading of the next one answers.
use Rattle.std.specs.Prelude.{◌≡◌, ℕ, List, [], ◌∷◌, map, Option, Result, Err, IfErr, string_bytes}
use Rattle.std.specs.Result.{result_ok}
use Rattle.std.specs.Vec.Iter.{into_iter_items}
use Rattle.scan_fmt.specs.declared.parse.Tokens.{Tokens}
use Rattle.scan_fmt.specs.declared.parse.ReadAs.{ReadAs}
use Rattle.scan_fmt.specs.declared.parse.ReadAs.TheVariants.{Missing, Empty, Bad}

-- the bytes of the tokens that are left, in order
abbrev pub texts_left : Tokens → List (List ℕ)
texts_left t = map string_bytes (into_iter_items t.tokens)

-- of tokens that were left the next one was read: none is left, it is empty, or it reads as `reads` says, and `Bad` is the only refusal then
abbrev pub ReadsNext : {T : Type 0} → (List ℕ → Option T → Type 0) → List (List ℕ) → List (List ℕ) → Result T ReadAs → Type 0
ReadsNext reads [] left result = (result ≡ Err Missing) × (left ≡ [])
ReadsNext reads ([] ∷ rest) left result = (result ≡ Err Empty) × (left ≡ rest)
ReadsNext reads ((b ∷ bs) ∷ rest) left result = reads (b ∷ bs) (result_ok result) × IfErr result (λ e. e ≡ Bad) × (left ≡ rest)
