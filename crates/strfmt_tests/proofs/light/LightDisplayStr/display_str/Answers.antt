use Rattle.std.proofs.Common.{rules, refl, inl, string_bytes}
use Rattle.strfmt.specs.Fault.{key_error}
use Rattle.strfmt_tests.proofs.light.LightDisplayStr.display_str.Goals as goal

pub returns-in-Ok : goal.returns-in-Ok
returns-in-Ok c = inl (key_error (string_bytes c.in-Ok.copy), (search rules), refl)
