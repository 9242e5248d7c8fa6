use Rattle.std.proofs.Common.{rules, ◌≡◌, [], ◌∷◌, ◌++◌, ◌∙◌, ap, List, ℕ}
use Rattle.formatx.specs.Scene.{named, with_name}
use Rattle.printer.proofs.KeyLemmas.{word_named, position_named}
use Rattle.printer.proofs.keys.PositionNames.new.Goals as goal

pub words-preserved : goal.words-preserved
words-preserved c =
    let word = c.index-words-index.result in
    let grown : c.push.new.self.items ≡ c.words.copies.items ++ c.in_ok-copy.copy ∷ [] = search rules in
    let added : named c.add.new.self ≡ with_name (named c.words.positions) c.as_str-name.result.now c.words.index = search rules in
    record {
      copied = rw grown (word_named c.args.words.now c.words.index word c.words.copies.items c.in_ok-copy.copy c.words-test.true c.words.invariant.copied (c.in_ok-copy.ensures ∙ c.as_str-name.ensures) c.index-words-index.is);
      placed =
          added ∙ ap (λ (t : List ℕ). with_name (named c.words.positions) t c.words.index) c.as_str-name.ensures
          ∙ position_named c.args.words.now c.words.index word (named c.words.positions) c.words-test.true c.words.invariant.placed c.index-words-index.is;
    }
