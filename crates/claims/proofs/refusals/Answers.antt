-- `claims::refusals` meets its contract: the claim is proved in proofs/RefusalLaws.antt.
use Rattle.claims.proofs.RefusalLaws.{proved-refusals}
use Rattle.claims.proofs.refusals.Goals as goal

pub returns : goal.returns
returns c = proved-refusals
