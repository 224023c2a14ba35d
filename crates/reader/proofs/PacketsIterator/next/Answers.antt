-- `reader::Packets::next`: a packet has no more words than are left from the place on, so the place behind it lies
-- within the words, and fewer are left then.
use Rattle.std.proofs.Common.{◌≡◌, ◌≤◌, ◌+◌, ℕ, List, length, drop, ap, arith, length-drop}
use borrow.Author.Tests.{false-eqb}
use Rattle.ump.specs.Packet.{packet}
use Rattle.ump.proofs.PacketLaws.{packet-length}
use Rattle.reader.proofs.PacketsIterator.next.Goals as goal

within : (ws : List ℕ) (at n : ℕ) → n ≡ length (packet (drop at ws)) → (n ≡ 0 → ⊥) → at + n ≤ length ws
within ws at n e some = omega (arith, e, some, packet-length (drop at ws), length-drop at ws)

pub overflow_add-self : goal.overflow_add-self
overflow_add-self c =
    let p = c.args.self.now in
    let n = length c.packet-packet.result.now in
    let some = false-eqb n 0 c.if-is_empty.ensures in
    omega (arith, within p.words.now p.at n (ap length c.packet-packet.ensures) some, c.type_inv.self)

pub returns-clause-goes : goal.returns-clause-goes
returns-clause-goes c =
    let p = c.args.self.now in
    let n = length c.packet-packet.result.now in
    let some = false-eqb n 0 c.if-is_empty.ensures in
    record {
      on = λ _. (tt, tt, (omega (arith, some, within p.words.now p.at n (ap length c.packet-packet.ensures) some)));
      keeps = tt;
      rests = λ _. tt;
    }
