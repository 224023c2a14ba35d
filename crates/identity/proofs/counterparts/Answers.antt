-- `identity::counterparts` meets its contract: the claim is proved in proofs/IdentityLaws.antt. Assumes nothing.
use Rattle.identity.proofs.IdentityLaws.{proved-counterparts}
use Rattle.identity.proofs.counterparts.Goals as goal

pub returns : goal.returns
returns c = proved-counterparts
