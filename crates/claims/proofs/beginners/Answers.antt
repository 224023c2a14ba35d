-- `claims::beginners` meets its contract: the claim is proved in proofs/BeginnersLaws.antt.
use Rattle.claims.proofs.BeginnersLaws.{proved-beginners}
use Rattle.claims.proofs.beginners.Goals as goal

pub returns : goal.returns
returns c = proved-beginners
