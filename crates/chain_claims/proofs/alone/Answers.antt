-- `chain_claims::alone` meets its contract: the claim is proved in proofs/AloneLaws.antt.
use Rattle.chain_claims.proofs.AloneLaws.{proved-alone}
use Rattle.chain_claims.proofs.alone.Goals as goal

pub returns : goal.returns
returns c = proved-alone
