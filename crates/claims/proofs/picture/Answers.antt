-- `claims::picture` meets its contract: the claim is proved in proofs/PictureLaws.antt.
use Rattle.claims.proofs.PictureLaws.{proved-picture}
use Rattle.claims.proofs.picture.Goals as goal

pub returns : goal.returns
returns c = proved-picture
