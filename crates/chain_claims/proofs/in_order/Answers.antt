-- `chain_claims::in_order` meets its contract: the claim is proved in proofs/OrderLaws.antt.
use Rattle.chain_claims.proofs.OrderLaws.{proved-in-order}
use Rattle.chain_claims.proofs.in_order.Goals as goal

pub returns : goal.returns
returns c = proved-in-order
