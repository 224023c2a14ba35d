-- `ump::next_place` meets its contract: a packet is no longer than the words left, so the sum fits. Assumes nothing.
use Rattle.std.proofs.Common.{length, drop, length-drop, ap, arith}
use Rattle.ump.proofs.PacketLaws.{packet-length}
use Rattle.ump.proofs.packets.next_place.Goals as goal

pub overflow_add-result : goal.overflow_add-result
overflow_add-result c =
    let a = c.args in
    omega (arith, ap length c.packet_at-p.ensures, packet-length (drop a.at a.words.now), length-drop a.at a.words.now)
