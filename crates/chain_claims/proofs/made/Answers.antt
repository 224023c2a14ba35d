-- `chain_claims::made` meets its contract: the claim is proved in proofs/MadeLaws.antt.
use Rattle.chain_claims.proofs.MadeLaws.{proved-made}
use Rattle.chain_claims.proofs.made.Goals as goal

pub returns : goal.returns
returns c = proved-made
