-- `voice::upward::up` meets its contract: the word says whether the packet is a MIDI 1.0 voice message, and then it is
-- the whole packet.
-- Assumes nothing.
use mathlib.Core.Path.{sym, ap, ◌∙◌}
use native.Mathlib.Omega.{arith}
use lib.ListN.{drop}
use Rattle.ump.specs.Word.{message_type}
use Rattle.voice.proofs.TurnLaws.{next-few, next_fits, onward-turn, other-packet, voice-turn}
use Rattle.voice.proofs.upward.up.Goals as goal

pub onward-done-requires : goal.onward-done-requires
onward-done-requires c =
    let a = c.args in
    rw c.packet_at.ensures (
      next-few (drop a.past.read a.words.now),
      next_fits a.words.now a.past.read (omega arith) (omega arith),
    )

pub returns-then-message_type-eq-MIDI1_VOICE : goal.returns-then-message_type-eq-MIDI1_VOICE
returns-then-message_type-eq-MIDI1_VOICE c =
    let a = c.args in
    let w = c.word_at-w in
    let e = sym (ap message_type w.ensures) ∙ sym c.message_type.ensures ∙
    c.if-message_type-eq-MIDI1_VOICE.true in
    let k = rw w.ensures at c.voice_up.ensures in
    let z = voice-turn a.rule _ a.past a.words.now a.out.now a.«record» _ _ e (k.turn, k.output) in
    record { turn = z.0; output = z.1 }

pub returns-else-message_type-eq-MIDI1_VOICE : goal.returns-else-message_type-eq-MIDI1_VOICE
returns-else-message_type-eq-MIDI1_VOICE c =
    let a = c.args in
    let p = c.packet_at in
    let e = other-packet a.words.now a.past.read (λ z. c.if-message_type-eq-MIDI1_VOICE.false (c.message_type.ensures
    ∙ ap message_type c.word_at-w.ensures ∙ z)) in
    let z = onward-turn a.past p.result.now a.out.now a.«record» a.rule _ (rw (← p.ensures) at e) in
    let k = c.onward-done.ensures in
    rw (c.stays.ensures, k.report, ← p.ensures) record {
      turn = z.0;
      output = k.output ∙ z.1;
    }
