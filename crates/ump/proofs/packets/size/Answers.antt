-- `ump::size` meets its contract: the two bits of a message type are its size less one. Assumes nothing.
use Rattle.std.proofs.Common.{arith}
use Rattle.ump.specs.Word.{message_type}
use Rattle.ump.specs.Packet.{size}
use Rattle.ump.proofs.PacketLaws.{size-bits}
use Rattle.ump.proofs.packets.size.Goals as goal

pub returns : goal.returns
unfolding size
returns c = rw c.message_type-t.ensures (size-bits (message_type c.args.w) (omega arith))
