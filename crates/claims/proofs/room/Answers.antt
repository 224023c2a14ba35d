-- `claims::room` meets its contract: the claim is proved in proofs/RoomLaws.antt.
use Rattle.claims.proofs.RoomLaws.{proved-room}
use Rattle.claims.proofs.room.Goals as goal

pub returns : goal.returns
returns c = proved-room
