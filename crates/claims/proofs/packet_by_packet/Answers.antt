-- `claims::packet_by_packet` meets its contract: the claim is proved in proofs/PacketByPacket.antt.
use Rattle.claims.proofs.PacketByPacket.{proved-packet-by-packet}
use Rattle.claims.proofs.packet_by_packet.Goals as goal

pub returns : goal.returns
returns c = proved-packet-by-packet
