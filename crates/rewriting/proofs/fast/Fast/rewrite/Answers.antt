use Rattle.std.proofs.Common.{◌≡◌, ◌++◌, ◌∙◌, ℕ, List, [], ◌∷◌, sym, subst, string_bytes, Ok}
use Rattle.std.proofs.lemmas.Str.{IsUtf8-string_bytes}
use Rattle.values.specs.declared.kind.Kind.{Kind}
use Rattle.tokens.specs.declared.Token.{Token}
use Rattle.tokens.specs.Tokens.{AreTokens, data_of}
use Rattle.row_format.specs.Columns.{Columns}
use Rattle.row_format.specs.Laws.{IsText}
use Rattle.row_format.specs.Row.{IsRow}
use Rattle.columns.specs.Fields.{AreFieldsAt}
use Rattle.columns.specs.Rows.{RowColumns}
use Rattle.printer.specs.Text.{Prints}
use Rattle.pieces.specs.Template.{Template}
use Rattle.rewriting.specs.Inner.Fast.{FastWay, IsWritten}
use Rattle.rewriting.proofs.RowLemmas.{ended}
use Rattle.rewriting.proofs.fast.Fast.rewrite.Goals as goal

abbrev way : RowColumns → Template → FastWay
way columns pieces = record { format = columns.format; kinds = columns.kinds; printing = pieces.printing }

written : (columns : RowColumns) (pieces : Template) (row old mid new line : List ℕ) (tokens seen : List Token) → IsText columns.format → pieces.kinds ≡ columns.kinds → seen ≡ tokens
    → IsRow columns.format columns.kinds row (data_of columns.kinds row tokens) → Prints pieces.printing pieces.kinds (data_of pieces.kinds row seen) (Ok line) → mid ≡ old ++ line → new ≡ mid ++ 10 ∷ []
    → IsWritten (way columns pieces) row old new
written columns pieces row old mid new line tokens seen text kinds same is_row prints grown ended_by = record {
  text = text;
  values = data_of columns.kinds row tokens;
  line = line;
  is_row = is_row;
  prints = subst (λ (k : List Kind). Prints pieces.printing k (data_of k row tokens) (Ok line)) kinds (subst (λ (ts : List Token). Prints pieces.printing pieces.kinds (data_of pieces.kinds row ts) (Ok line)) same prints);
  grown = ended old line mid new grown ended_by;
}

are_tokens : (columns : RowColumns) (pieces : Template) (row : List ℕ) (tokens seen : List Token) → pieces.kinds ≡ columns.kinds → seen ≡ tokens → AreTokens columns.kinds row tokens → AreTokens pieces.kinds row seen
are_tokens columns pieces row tokens seen kinds same are = subst (λ (k : List Kind). AreTokens k row seen) (sym kinds) (subst (λ (ts : List Token). AreTokens columns.kinds row ts) (sym same) are)

are_fields : (columns : RowColumns) (pieces : Template) (row : List ℕ) (tokens seen : List Token) → pieces.format ≡ columns.format → pieces.kinds ≡ columns.kinds → seen ≡ tokens
    → AreFieldsAt columns.format.columns columns.kinds row tokens → AreFieldsAt pieces.format.columns pieces.kinds row seen
are_fields columns pieces row tokens seen format kinds same are =
    subst (λ (f : Columns). AreFieldsAt f.columns pieces.kinds row seen) (sym format)
    (subst (λ (k : List Kind). AreFieldsAt columns.format.columns k row seen) (sym kinds) (subst (λ (ts : List Token). AreFieldsAt columns.format.columns columns.kinds row ts) (sym same) are))

pub write-requires : goal.write-requires
write-requires c = record {
  tokens = are_tokens c.self.inside.columns c.self.inside.pieces c.args.row.now c.read.new.tokens.items c.deref.result.now c.self.invariant.2 c.deref.ensures.value (c.in_ok-read.ensures.tokens c.if-not-branch.false);
  fields = are_fields c.self.inside.columns c.self.inside.pieces c.args.row.now c.read.new.tokens.items c.deref.result.now c.self.invariant.1 c.self.invariant.2 c.deref.ensures.value (c.in_ok-read.ensures.fields c.if-not-branch.false);
}

pub end_line-requires : goal.end_line-requires
end_line-requires c = record {
  front = string_bytes c.args.out.now;
  more = c.in_ok-write.ensures.text.0;
  is = c.in_ok-write.ensures.text.2;
  utf8 = IsUtf8-string_bytes c.args.out.now;
  long = c.len-before.ensures ∙ c.args.out.now.bytes.ok.0;
}

pub returns-in-Ok-clause-written : goal.returns-in-Ok-clause-written
returns-in-Ok-clause-written c = λ _.
    subst (λ (w : FastWay). IsWritten w c.args.row.now (string_bytes c.args.out.now) (string_bytes c.end_line.new.out)) c.self.view_is
    (written c.self.inside.columns c.self.inside.pieces c.args.row.now (string_bytes c.args.out.now) (string_bytes c.write.new.out) (string_bytes c.end_line.new.out) c.in_ok-write.ensures.text.0
    c.read.new.tokens.items c.deref.result.now c.self.invariant.0 c.self.invariant.2 c.deref.ensures.value (c.in_ok-read.ensures.sound c.if-not-branch.false) c.in_ok-write.ensures.text.1 c.in_ok-write.ensures.text.2 c.in-Ok.ensures.ok)
