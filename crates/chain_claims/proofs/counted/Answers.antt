-- `chain_claims::counted` meets its contract: the claim is proved in proofs/CountedLaws.antt.
use Rattle.chain_claims.proofs.CountedLaws.{proved-counted}
use Rattle.chain_claims.proofs.counted.Goals as goal

pub returns : goal.returns
returns c = proved-counted
