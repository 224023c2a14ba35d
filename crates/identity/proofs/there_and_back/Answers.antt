-- `identity::there_and_back` meets its contract: the claim is proved in proofs/IdentityLaws.antt. Assumes nothing.
use Rattle.identity.proofs.IdentityLaws.{proved-back}
use Rattle.identity.proofs.there_and_back.Goals as goal

pub returns : goal.returns
returns c = proved-back
