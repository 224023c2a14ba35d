-- `cable_claims::socket_refusals`: the claim is proved in proofs/RefusalLaws.antt.
use Rattle.cable_claims.proofs.RefusalLaws.{proved-refusals}
use Rattle.cable_claims.proofs.socket_refusals.Goals as goal

pub returns : goal.returns
returns c = proved-refusals
