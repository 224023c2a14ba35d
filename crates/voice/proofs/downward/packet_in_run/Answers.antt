-- `voice::downward::packet_in_run` meets its contract: the type decides, and what most packets are is asked for where
-- no rule asks anything. Assumes nothing.
use mathlib.Core.Path.{sym, ◌∙◌}
use mathlib.Core.Bool.{not}
use native.Mathlib.Omega.{arith}
use borrow.Author.Tests.{not-true}
use Rattle.ground.proofs.Bools.{and_right}
use Rattle.ump.specs.Packet.{first}
use Rattle.ump.proofs.PacketLaws.{size-range}
use Rattle.voice.proofs.DownLaws.{two-words, unruled-sends, voice-two}
use Rattle.voice.proofs.downward.packet_in_run.Goals as goal

pub bounds-packet-1 : goal.bounds-packet-1
bounds-packet-1 c =
    omega (
      arith,
      voice-two c.args.packet.now c.requires
          (sym c.message_type.ensures ∙
          c.if-message_type-eq-MIDI2_VOICE.true),
    )

pub voice_down-requires : goal.voice_down-requires
voice_down-requires c =
    let h = sym c.message_type.ensures ∙
    c.if-message_type-eq-MIDI2_VOICE.true in
    (voice-two c.args.packet.now c.requires h, h)

pub other_down-requires : goal.other_down-requires
other_down-requires c =
    let r = size-range (first c.args.packet.now) in (
      omega (arith, r.0, c.requires),
      omega (arith, r.1, c.requires),
      λ q. c.if-message_type-eq-MIDI2_VOICE.false
          (c.message_type.ensures ∙ q),
    )

pub returns-then-is_keyed-is_ruled : goal.returns-then-is_keyed-is_ruled
returns-then-is_keyed-is_ruled c =
    let a = c.args in
    let p = a.packet.now in
    let two = voice-two p c.requires (sym c.message_type.ensures ∙ c.if-message_type-eq-MIDI2_VOICE.true) in
    let r = c.is_ruled.result in
    let asks_nothing = not-true r (and_right c.is_keyed.result (not r) c.if-is_keyed-is_ruled.true) in
    let k = rw (← two-words p two) at c.keyed_down.ensures in
    let z = unruled-sends a.rule a.to a.out.now p (sym c.is_ruled.ensures ∙ asks_nothing) _ _ (k.number, k.output) in
    record { number = z.0; output = z.1 }

pub bounds-packet-0 : goal.bounds-packet-0
bounds-packet-0 c = omega (
  arith,
  size-range (first c.args.packet.now),
  c.requires,
)
