-- The one character of a text, by its bytes and by its characters.
use Rattle.std.proofs.Common.{◌≡◌, ◌≢◌, ℕ, true, List, [], ◌∷◌, Option, Some, None, MatchOption, encode_utf8, sym, ap, subst, ◌∙◌}
use Rattle.std.specs.Str.{chars, IsUtf8, encode_utf8_all, all_scalars}
use Rattle.std.specs.Str.Parse.{ParsesChar}
use Rattle.std.proofs.lemmas.Bool.{and_parts}
use Rattle.std.proofs.lemmas.List.{append-nil}
use Rattle.std.proofs.lemmas.Str.{chars-nil, chars_past_char, encodes-chars, scalars-chars}
use Rattle.scan_fmt.specs.Values.{ReadsBy}

pub one_char : (text : List ℕ) (r : Option ℕ) → IsUtf8 text → ReadsBy ParsesChar text r → MatchOption r ((c : ℕ) → chars text ≢ c ∷ []) (λ c. chars text ≡ c ∷ [])
one_char text (Some c) utf8 is = chars_past_char text [] c utf8 (is ∙ sym (append-nil (encode_utf8 c))) ∙ ap (λ (t : List ℕ). c ∷ t) chars-nil
one_char text None utf8 none = λ c one.
    let all : all_scalars (c ∷ []) ≡ true = subst (λ (t : List ℕ). all_scalars t ≡ true) one (scalars-chars text utf8) in
    none c (and_parts _ _ all).0 (sym (encodes-chars text utf8) ∙ ap encode_utf8_all one ∙ append-nil (encode_utf8 c))
