-- Words among tokens.
use Rattle.std.proofs.Common.{◌≡◌, ℕ, List, ap, sym, subst, ◌∙◌}
use Rattle.std.specs.Str.{chars, IsUtf8, encode_utf8_all}
use Rattle.std.proofs.lemmas.Str.{encodes-chars}
use Rattle.std.proofs.Common.{Option}
use Rattle.values.specs.declared.kind.Kind.TheVariants.{Word}
use Rattle.values.specs.Datum.{natural, integer, word, character}
use Rattle.row_format.specs.Fit.{MayStandBefore}
use Rattle.row_format.specs.Row.{IsTextOf}
use Rattle.row_plan.specs.Inner.Reading.{NoneIs}

-- texts with the same characters are the same
pub same_text : (a b : List ℕ) → IsUtf8 a → IsUtf8 b → chars a ≡ chars b → a ≡ b
same_text a b u w e = sym (encodes-chars a u) ∙ ap encode_utf8_all e ∙ encodes-chars b w

pub no_word : (end : Option ℕ) (bytes : List ℕ) → IsUtf8 bytes → ¬ MayStandBefore end (word bytes) → NoneIs (λ value. IsTextOf (chars bytes) value × MayStandBefore end value) Word
no_word end bytes u not (natural n) is so = is
no_word end bytes u not (integer z) is so = is
no_word end bytes u not (character c) is so = is
no_word end bytes u not (word text) is so = not (subst (λ (t : List ℕ). MayStandBefore end (word t)) (same_text text bytes is u so.0.1) so.1)
