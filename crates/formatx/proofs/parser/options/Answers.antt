-- Each part follows the one before it.
use Rattle.formatx.proofs.EndLemmas.{end_trans}
use Rattle.formatx.proofs.parser.options.Goals as goal

pub count-requires : goal.count-requires
count-requires c = end_trans c.requires (end_trans (end_trans (end_trans c.fill_align-fill.ensures.leaves c.sign-sign.ensures.leaves) c.alternate-alternate.ensures.leaves) c.zero-zero_pad.ensures.leaves)

pub precision-requires : goal.precision-requires
precision-requires c = end_trans (end_trans c.requires (end_trans (end_trans (end_trans c.fill_align-fill.ensures.leaves c.sign-sign.ensures.leaves) c.alternate-alternate.ensures.leaves) c.zero-zero_pad.ensures.leaves)) c.in_ok-width.ensures.leaves

pub format_type-requires : goal.format_type-requires
format_type-requires c = end_trans (end_trans (end_trans c.requires (end_trans (end_trans (end_trans c.fill_align-fill.ensures.leaves c.sign-sign.ensures.leaves) c.alternate-alternate.ensures.leaves) c.zero-zero_pad.ensures.leaves)) c.in_ok-width.ensures.leaves) c.in_ok-precision.ensures.leaves

pub returns-clause-leaves : goal.returns-clause-leaves
returns-clause-leaves c = end_trans (end_trans (end_trans (end_trans c.fill_align-fill.ensures.leaves c.sign-sign.ensures.leaves) c.alternate-alternate.ensures.leaves) c.zero-zero_pad.ensures.leaves) (end_trans (end_trans c.in_ok-width.ensures.leaves c.in_ok-precision.ensures.leaves) c.in_ok-format_type.ensures.leaves)
