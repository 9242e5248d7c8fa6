use Rattle.std.proofs.Common.{arith, map, string_bytes, ◌∷◌, []}
use Rattle.reformat.proofs.CommandLemmas.{one_is, two_are, said_of}
use Rattle.reformat.proofs.command.command_of.Goals as goal

pub returns-in-len1 : goal.returns-in-len1
returns-in-len1 c =
    said_of (map string_bytes c.args.words.now) (c.as_str.result.now ∷ []) c.one_word.result
    (one_is string_bytes c.args.words.now c.only-item.result c.as_str.result.now (omega arith) c.only-item.is c.as_str.ensures.value) c.one_word.ensures

pub returns-in-len2 : goal.returns-in-len2
returns-in-len2 c =
    said_of (map string_bytes c.args.words.now) (c.as_str-word.result.now ∷ c.as_str-object.result.now ∷ []) c.two_words.result
    (two_are string_bytes c.args.words.now c.first-item.result c.second-item.result c.as_str-word.result.now c.as_str-object.result.now (omega arith) c.first-item.is c.second-item.is c.as_str-word.ensures.value c.as_str-object.ensures.value)
    c.two_words.ensures
