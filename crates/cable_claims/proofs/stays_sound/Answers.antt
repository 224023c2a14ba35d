-- `cable_claims::stays_sound`: the claim is proved in proofs/SoundLaws.antt.
use Rattle.cable_claims.proofs.SoundLaws.{proved-sound}
use Rattle.cable_claims.proofs.stays_sound.Goals as goal

pub returns : goal.returns
returns c = proved-sound
