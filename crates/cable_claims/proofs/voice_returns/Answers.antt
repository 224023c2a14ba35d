-- `cable_claims::voice_returns`: the claim is proved in proofs/VoiceLaws.antt.
use Rattle.cable_claims.proofs.VoiceLaws.{proved-voice}
use Rattle.cable_claims.proofs.voice_returns.Goals as goal

pub returns : goal.returns
returns c = proved-voice
