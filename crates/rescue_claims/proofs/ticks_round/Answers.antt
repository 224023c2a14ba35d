-- `rescue_claims::ticks_round` meets its contract: the claim is proved in proofs/TickLaws.antt.
use Rattle.rescue_claims.proofs.TickLaws.{proved-ticks-round}
use Rattle.rescue_claims.proofs.ticks_round.Goals as goal

pub returns : goal.returns
returns c = proved-ticks-round
