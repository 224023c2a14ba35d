-- `rescue_claims::rescued_again` meets its contract: the claim is proved in proofs/AgainLaws.antt.
use Rattle.rescue_claims.proofs.AgainLaws.{proved-rescued-again}
use Rattle.rescue_claims.proofs.rescued_again.Goals as goal

pub returns : goal.returns
returns c = proved-rescued-again
