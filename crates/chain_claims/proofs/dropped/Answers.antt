-- `chain_claims::dropped` meets its contract: the claim is proved in proofs/DroppedLaws.antt.
use Rattle.chain_claims.proofs.DroppedLaws.{proved-dropped}
use Rattle.chain_claims.proofs.dropped.Goals as goal

pub returns : goal.returns
returns c = proved-dropped
