use Rattle.std.proofs.Common.{◌≡◌, drop, map}
use Rattle.sprintf.specs.Inner.Reading.{skip_one}
use Rattle.sprintf.proofs.parser.strip_one.Given as goal

abbrev pub invariant-loop-word : goal.invariant-loop-word
invariant-loop-word l = skip_one (map (λ w. w.now) l.words) l.text ≡ skip_one (map (λ w. w.now) (drop l.word-index l.words)) l.text
