-- What is written for all of an input.
use Rattle.std.specs.Prelude.{◌≡◌, ℕ, List, [], ◌∷◌, ◌++◌, All}
use Rattle.std.specs.Str.{IsUtf8}
use Rattle.whiteread.specs.Lines.{lines_of, line_feed}
use Rattle.rewriting.specs.Rewrite.{Layout, IsRewrittenAs}
use Rattle.header_lines.specs.Heading.{AreHeading}
use Rattle.header_lines.specs.Headers.{IsFormatLine, IsDialectLine, IsTemplateLine}

-- The text is, for each row in order, the line that it is rewritten as, and a line feed.
abbrev pub IsTextOf : Layout → List (List ℕ) → List ℕ → Type 0
IsTextOf layout [] text = text ≡ []
IsTextOf layout (row ∷ rows) text = (line : List ℕ) × (rest : List ℕ) × IsRewrittenAs layout row line × (text ≡ line ++ line_feed ∷ rest) × IsTextOf layout rows rest

-- The lines are UTF-8: headers that keep their rules, and rows; the text is that of the rows.
pub record AreRewritten (lines : List (List ℕ)) (text : List ℕ) : Type 0 where
  pub heading : List (List ℕ)
  pub dialect_line : List ℕ
  pub layout : Layout
  pub rows : List (List ℕ)
  pub lines_are : lines ≡ heading ++ layout.format ∷ dialect_line ∷ layout.template ∷ rows
  pub utf8 : All IsUtf8 lines
  pub fields : AreHeading heading (record { version = layout.version; kinds = layout.kinds; names = layout.names })
  pub format : IsFormatLine layout.kinds layout.format
  pub dialect : IsDialectLine dialect_line layout.dialect
  pub template : IsTemplateLine layout.dialect layout.template
  pub text_of : IsTextOf layout rows text

-- The text is what is written for the lines of the input.
abbrev pub IsRewritten : List ℕ → List ℕ → Type 0
IsRewritten input text = AreRewritten (lines_of input) text
