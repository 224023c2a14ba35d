-- `claims::one_pupil` meets its contract: the claim is proved in proofs/OnePupilLaws.antt.
use Rattle.claims.proofs.OnePupilLaws.{proved-one-pupil}
use Rattle.claims.proofs.one_pupil.Goals as goal

pub returns : goal.returns
returns c = proved-one-pupil
