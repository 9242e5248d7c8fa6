use Rattle.std.proofs.Common.{◌≡◌, ◌++◌, ◌∷◌, [], ℕ, List, string_bytes, slice_get, ap, ◌∙◌, arith}
use Rattle.std.proofs.lemmas.Grind.{common_steps}
use Rattle.pieces.specs.Inner.Layout.{Part, Parts, layout_text, parts_text, text_where}
use Rattle.pieces.proofs.LayoutLemmas.{with_value}
use Rattle.pieces.proofs.layout.Layout.push_value.Goals as goal

pub returns : goal.returns
returns c = λ row tokens.
    let ps : List Part = c.self.inside.pieces.items in
    let tail : List ℕ = string_bytes c.self.inside.tail in
    let raw : c.push.new.self.items ≡ ps ++ record { before = string_bytes c.replace-before.result; form = c.args.form; place = c.args.place } ∷ [] = grind (arith, common_steps) in
    let before : string_bytes c.replace-before.result ≡ tail = ap string_bytes c.replace-before.ensures.value in
    let left : string_bytes c.replace-before.new.dest ≡ [] = ap string_bytes c.replace-before.ensures.after ∙ c.new.ensures.bytes in
    ap (λ (qs : List Part). parts_text qs row tokens ++ string_bytes c.replace-before.new.dest) raw
    ∙ ap (λ (t : List ℕ). parts_text (ps ++ record { before = t; form = c.args.form; place = c.args.place } ∷ []) row tokens ++ string_bytes c.replace-before.new.dest) before
    ∙ ap (λ (t : List ℕ). parts_text (ps ++ record { before = tail; form = c.args.form; place = c.args.place } ∷ []) row tokens ++ t) left
    ∙ with_value ps tail c.args.form c.args.place row tokens
    ∙ ap (λ (l : Parts). layout_text l row tokens ++ text_where c.args.form row (slice_get tokens c.args.place)) c.self.view_is
