use Rattle.std.proofs.Common.{Option, IfSome, sym, subst}
use Rattle.tokens.specs.declared.Token.{Token}
use Rattle.pieces.specs.Inner.Layout.{IsTokenOfSome}
use Rattle.pieces.proofs.LayoutLemmas.{token_where}
use Rattle.pieces.proofs.layout.Piece.append.Goals as goal

pub append_where-requires : goal.append_where-requires
append_where-requires c = record { token = subst (λ (o : Option Token). IfSome o (IsTokenOfSome c.args.row.now)) (sym c.token_at-token.ensures) (token_where c.args.row.now c.args.tokens.now c.self.inside.place c.requires.tokens) }
