use Rattle.plan_jobs.proofs.MessageLemmas.{messages_differ}
use Rattle.plan_jobs.proofs.laws.translate_messages_differ.Goals as goal

pub returns : goal.returns
returns c = messages_differ
