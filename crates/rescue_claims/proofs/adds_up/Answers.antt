-- `rescue_claims::adds_up` meets its contract: the claim is proved in proofs/SumLaws.antt.
use Rattle.rescue_claims.proofs.SumLaws.{proved-adds-up}
use Rattle.rescue_claims.proofs.adds_up.Goals as goal

pub returns : goal.returns
returns c = proved-adds-up
