-- `cable_claims::exclusive_returns`: the claim is proved in proofs/ExclusiveLaws.antt.
use Rattle.cable_claims.proofs.ExclusiveLaws.{proved-exclusive}
use Rattle.cable_claims.proofs.exclusive_returns.Goals as goal

pub returns : goal.returns
returns c = proved-exclusive
