-- `message::reads_back` meets its contract: the laws are proved in proofs/MessageLaws.antt. Assumes nothing.
use Rattle.message.proofs.MessageLaws.{proved-reads-back}
use Rattle.message.proofs.reads_back.Goals as goal

pub returns : goal.returns
returns c = proved-reads-back
