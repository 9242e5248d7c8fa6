-- What a field's text is.
use Rattle.std.specs.Prelude.{ℕ, List, ◌++◌, replicate, encode_utf8_all}
use Rattle.std.specs.Str.{byte}
use Rattle.padding.specs.declared.Field.{Field}

-- a character so many times
abbrev pub fills : ℕ → ℕ → List ℕ
fills count fill = encode_utf8_all (replicate count fill)

-- the head, fills, the lead, zeros, the text, fills
abbrev pub field_text : Field → List ℕ
field_text f = f.head.now ++ fills f.left f.fill ++ f.lead.now ++ fills f.zeros (byte "0") ++ f.text.now ++ fills f.right f.fill
