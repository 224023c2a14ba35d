-- `chain_claims::no_touch` meets its contract: the claim is proved in proofs/AloneLaws.antt.
use Rattle.chain_claims.proofs.AloneLaws.{proved-no-touch}
use Rattle.chain_claims.proofs.no_touch.Goals as goal

pub returns : goal.returns
returns c = proved-no-touch
