-- `cable_claims::real_time_apart`: the claim is proved in proofs/RealTimeLaws.antt.
use Rattle.cable_claims.proofs.RealTimeLaws.{proved-real-time}
use Rattle.cable_claims.proofs.real_time_apart.Goals as goal

pub returns : goal.returns
returns c = proved-real-time
