-- `claims::soundness` meets its contract: the claim is proved in proofs/SoundnessLaws.antt.
use Rattle.claims.proofs.SoundnessLaws.{proved-soundness}
use Rattle.claims.proofs.soundness.Goals as goal

pub returns : goal.returns
returns c = proved-soundness
