-- `claims::marks` meets its contract: the claim is proved in proofs/MarkLaws.antt.
use Rattle.claims.proofs.MarkLaws.{proved-marks}
use Rattle.claims.proofs.marks.Goals as goal

pub returns : goal.returns
returns c = proved-marks
