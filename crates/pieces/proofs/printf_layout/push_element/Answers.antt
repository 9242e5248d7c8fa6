use Rattle.std.proofs.Common.{◌∷◌, sym, subst}
use Rattle.sprintf.specs.declared.parser.FormatElement.{FormatElement}
use Rattle.pieces.specs.Inner.Printf.{Moves}
use Rattle.pieces.proofs.PrintfLemmas.{percent_moves}
use Rattle.pieces.proofs.printf_layout.push_element.Goals as goal

pub returns-in-PercentSign : goal.returns-in-PercentSign
returns-in-PercentSign c = λ rest.
    let new = c.push_text-in-PercentSign.new.self in
    subst (λ (e : FormatElement). Moves c.args.kinds.now c.args.layout.now (e ∷ rest) c.args.place new rest c.args.place) (sym c.in-Format.is)
    (percent_moves c.args.kinds.now c.args.layout.now new rest c.args.place c.in-Format.field c.in-PercentSign.is c.in_ok-push_text-in-Format.ensures)
