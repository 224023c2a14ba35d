-- `chain_claims::finished` meets its contract: the claim is proved in proofs/WholeLaws.antt.
use Rattle.chain_claims.proofs.WholeLaws.{proved-finished}
use Rattle.chain_claims.proofs.finished.Goals as goal

pub returns : goal.returns
returns c = proved-finished
