-- `pitch::exactness` meets its contract: the claim is proved in proofs/PitchLaws.antt. Assumes nothing.
use Rattle.pitch.proofs.PitchLaws.{proved-exactness}
use Rattle.pitch.proofs.exactness.Goals as goal

pub returns : goal.returns
returns c = proved-exactness
