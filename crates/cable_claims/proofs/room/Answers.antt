-- `cable_claims::room`: the claim is proved in proofs/RoomLaws.antt.
use Rattle.cable_claims.proofs.RoomLaws.{proved-room}
use Rattle.cable_claims.proofs.room.Goals as goal

pub returns : goal.returns
returns c = proved-room
