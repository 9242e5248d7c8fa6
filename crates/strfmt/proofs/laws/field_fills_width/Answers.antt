use Rattle.strfmt.proofs.WidthLemmas.{text_width, integer_width}
use Rattle.strfmt.proofs.laws.field_fills_width.Goals as goal

pub returns : goal.returns
returns c = record { text = text_width; integer = integer_width }
