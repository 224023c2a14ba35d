-- `voice::downward::packet_down` meets its contract: the type decides, and the packet has the words of its type.
-- Assumes nothing.
use mathlib.Core.Path.{sym, ◌∙◌}
use native.Mathlib.Omega.{arith}
use Rattle.ump.specs.Packet.{first}
use Rattle.ump.proofs.PacketLaws.{size-range}
use Rattle.voice.proofs.DownLaws.{voice-two}
use Rattle.voice.proofs.downward.packet_down.Goals as goal

pub voice_down-requires : goal.voice_down-requires
voice_down-requires c =
    let h = sym c.message_type.ensures ∙ c.if-message_type-eq-MIDI2_VOICE.true in
    (voice-two c.args.packet.now c.requires h, h)

pub other_down-requires : goal.other_down-requires
other_down-requires c =
    let r = size-range (first c.args.packet.now) in (
      omega (arith, r.0, c.requires),
      omega (arith, r.1, c.requires),
      λ q. c.if-message_type-eq-MIDI2_VOICE.false
          (c.message_type.ensures ∙ q),
    )

pub bounds-packet-0 : goal.bounds-packet-0
bounds-packet-0 c = omega (
  arith,
  size-range (first c.args.packet.now),
  c.requires,
)
