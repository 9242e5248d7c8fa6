use Rattle.std.proofs.Common.{refl}
use Rattle.strfmt.specs.Grammar.Parts.{Parts as WrittenParts}
use Rattle.strfmt.proofs.parts.parse.Goals as goal

pub returns : goal.returns
returns c =
    let written : WrittenParts = record {
      fill = c.fill_and_alignment-fill.result.0;
      align = c.fill_and_alignment-fill.result.1;
      sign = c.sign-sign.result.0;
      alternate = c.flag-alternate.result.0;
      zero = c.zero_flag-zero.result.0;
      width = c.number-width.ensures.0;
      thousands = c.flag-thousands.result.0;
      dot = c.flag-dot.result.0;
      precision = c.number_after-precision.ensures.0;
      left = c.number_after-precision.result.1.now;
    } in (
      written,
      (
        c.fill_and_alignment-fill.result.2.now,
        c.sign-sign.result.1.now,
        c.flag-alternate.result.1.now,
        c.zero_flag-zero.result.1.now,
        c.number-width.result.1.now,
        c.flag-thousands.result.1.now,
        c.flag-dot.result.1.now,
        c.fill_and_alignment-fill.ensures,
        c.sign-sign.ensures,
        c.flag-alternate.ensures,
        c.zero_flag-zero.ensures,
        c.number-width.ensures.1,
        c.flag-thousands.ensures,
        c.flag-dot.ensures,
        c.number_after-precision.ensures.1,
      ),
      rw (c.number-width.ensures.2, c.number_after-precision.ensures.2) refl,
    )
