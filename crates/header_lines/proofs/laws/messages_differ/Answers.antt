use Rattle.header_lines.proofs.MessageLemmas.{messages_differ}
use Rattle.header_lines.proofs.laws.messages_differ.Goals as goal

pub returns : goal.returns
returns c = messages_differ
