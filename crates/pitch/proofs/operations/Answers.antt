-- `pitch::operations` meets its contract: the claim is proved in proofs/PitchLaws.antt. Assumes nothing.
use Rattle.pitch.proofs.PitchLaws.{proved-operations}
use Rattle.pitch.proofs.operations.Goals as goal

pub returns : goal.returns
returns c = proved-operations
