-- `cable_claims::every_byte`: the claim is proved in proofs/EveryByteLaws.antt.
use Rattle.cable_claims.proofs.EveryByteLaws.{proved-every-byte}
use Rattle.cable_claims.proofs.every_byte.Goals as goal

pub returns : goal.returns
returns c = proved-every-byte
