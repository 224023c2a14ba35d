-- `identity::examples` meets its contract: the claim is proved in proofs/IdentityLaws.antt. Assumes nothing.
use Rattle.identity.proofs.IdentityLaws.{proved-examples}
use Rattle.identity.proofs.examples.Goals as goal

pub returns : goal.returns
returns c = proved-examples
