-- What a light displays.
use Rattle.std.specs.Prelude.{codes, string_bytes, Err}
use Rattle.strfmt.specs.Fault.{key_error}
use Rattle.strfmt.specs.Field.{text_field}
use Rattle.strfmt.specs.Text.{Meaning}
use Rattle.strfmt_tests.specs.declared.light.Light.{Light}
use Rattle.strfmt_tests.specs.declared.light.Light.TheVariants.{On, Off, Broken}

-- The field of the word, or the message of a broken light.
abbrev pub light_field : Light → Meaning
light_field On spec = text_field spec (codes "on")
light_field Off spec = text_field spec (codes "off")
light_field (Broken message) spec = Err (key_error (string_bytes message))
