-- `cable_claims::running_status`: the claim is proved in proofs/RunningLaws.antt.
use Rattle.cable_claims.proofs.RunningLaws.{proved-running}
use Rattle.cable_claims.proofs.running_status.Goals as goal

pub returns : goal.returns
returns c = proved-running
