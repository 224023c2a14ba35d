-- `claims::places` meets its contract: the claim is proved in proofs/PlaceLaws.antt.
use Rattle.claims.proofs.PlaceLaws.{proved-places}
use Rattle.claims.proofs.places.Goals as goal

pub returns : goal.returns
returns c = proved-places
