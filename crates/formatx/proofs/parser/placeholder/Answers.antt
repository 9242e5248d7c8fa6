-- Each part follows the one before it.
use Rattle.formatx.proofs.EndLemmas.{end_trans}
use Rattle.formatx.proofs.SpanLemmas.{names_fit}
use Rattle.formatx.proofs.parser.placeholder.Goals as goal

pub argument-requires : goal.argument-requires
argument-requires c = end_trans c.requires.end c.skip_byte.ensures.leaves

pub spec-requires : goal.spec-requires
spec-requires c = end_trans c.requires.end (end_trans c.skip_byte.ensures.leaves c.in_ok-argument.ensures.leaves)

pub span_between-span-requires-clause-to : goal.span_between-span-requires-clause-to
span_between-span-requires-clause-to c = end_trans (end_trans (end_trans c.skip_byte.ensures.leaves c.in_ok-argument.ensures.leaves) c.in_ok-spec.ensures.leaves) c.in-Some.ensures.leaves

pub span_between-span-requires-in-None-clause-to : goal.span_between-span-requires-in-None-clause-to
span_between-span-requires-in-None-clause-to c = end_trans (end_trans c.skip_byte.ensures.leaves c.in_ok-argument.ensures.leaves) c.in_ok-spec.ensures.leaves

pub returns-in-Some-clause-leaves : goal.returns-in-Some-clause-leaves
returns-in-Some-clause-leaves c = end_trans (end_trans (end_trans c.skip_byte.ensures.leaves c.in_ok-argument.ensures.leaves) c.in_ok-spec.ensures.leaves) c.in-Some.ensures.leaves

pub returns-in-Some-clause-fits : goal.returns-in-Some-clause-fits
returns-in-Some-clause-fits c = (c.span_between-span.ensures.fits, c.in_ok-argument.ensures.fits, names_fit c.args.source.now c.in_ok-spec.spec c.in_ok-spec.ensures.fits)
