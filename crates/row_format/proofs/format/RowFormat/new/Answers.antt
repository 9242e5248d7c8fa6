use Rattle.std.proofs.Common.{◌≡◌, ◌++◌, ℕ, List, length-drop, ap, ◌∙◌, string_bytes, arith}
use Rattle.std.proofs.lemmas.Str.{IsUtf8-string_bytes}
use Rattle.row_format.proofs.Elements.{one_more, texts_of_both}
use Rattle.row_format.proofs.format.RowFormat.new.Goals as goal

pub fields-smaller : goal.fields-smaller
fields-smaller c =
    let less = c.in_ok-rest-2.ensures.shorter in
    omega (arith, less, length-drop 1 c.fields.rest.now, c.in-len1-up.len_at_least)

pub fields-preserved : goal.fields-preserved
fields-preserved c =
    let text = c.in_ok-rest-2.ensures.text in
    let same : string_bytes c.push_literals-in-len1-up.new.text ≡ text.0 = text.1 ∙ ap (λ (t : List ℕ). t ++ text.0) c.new-text.ensures.bytes in
    record {
      whole = rw c.in_ok-push_field.ensures.column (one_more _ c.fields.fields.items c.args.elements.now c.fields.rest.now c.in_ok-rest-2.rest.now _ text.0 _ c.fields.invariant.whole c.fields.invariant.field c.in-len1-up.len_at_least text.2 c.in_ok-rest-2.ensures.field same);
      field = c.in_ok-rest-2.ensures.field;
      texts = rw c.in_ok-push_field.ensures.column (texts_of_both _ _ c.fields.invariant.texts c.in_ok-push_field.ensures.text);
    }

pub returns-clause-text : goal.returns-clause-text
returns-clause-text c = (IsUtf8-string_bytes c.push_literals.new.text, c.fields.invariant.texts)
