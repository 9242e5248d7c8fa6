-- The words so far are copied, and each names its position.
use Rattle.std.proofs.Common.{◌≡◌, map, take}
use Rattle.formatx.specs.Scene.{named}
use Rattle.values.specs.Datum.{word_text}
use Rattle.printer.specs.Text.{named_from}
use Rattle.printer.proofs.keys.PositionNames.new.Given as goal

abbrev pub invariant-words : goal.invariant-words
invariant-words l = record {
  copied : map word_text l.copies.items ≡ map word_text (take l.index l.words);
  placed : named l.positions ≡ named_from 0 (map word_text (take l.index l.words));
}
