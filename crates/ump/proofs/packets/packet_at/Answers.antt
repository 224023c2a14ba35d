-- `ump::packet_at` meets its contract: each of its three ways out is one of the laws of `packet` at a place. Assumes nothing.
use Rattle.std.proofs.Common.{◌≡◌, ◌+◌, ◌-◌, get_or, sym, arith}
use Rattle.ump.specs.Packet.{size}
use Rattle.ump.proofs.PacketLaws.{packet-end, packet-short, packet-whole-at}
use Rattle.ump.proofs.packets.packet_at.Goals as goal

pub returns-then-words-at : goal.returns-then-words-at
returns-then-words-at c = sym (packet-end c.args.words.now c.args.at c.if-words-at.true)

pub returns-then-words-at-2 : goal.returns-then-words-at-2
returns-then-words-at-2 c =
    sym (packet-short c.args.words.now c.args.at c.if-words-at.false (rw c.size-n.ensures at c.if-words-at-2.true))

pub returns : goal.returns
returns c =
    let a = c.args in
    let n = c.size-n.ensures in
    let part : a.at + c.size-n.result - a.at ≡ size (get_or a.words.now a.at 0) = omega (arith, n) in
    rw part (sym (packet-whole-at a.words.now a.at c.if-words-at.false (rw n at c.if-words-at-2.false)))
