-- `voice::downward::size_down` meets its contract: a MIDI 2.0 voice message has two words. Assumes nothing.
use mathlib.Core.Path.{sym, ◌∙◌}
use Rattle.ump.specs.Packet.{size}
use Rattle.voice.proofs.downward.size_down.Goals as goal

pub returns-then-message_type-eq-MIDI2_VOICE : goal.returns-then-message_type-eq-MIDI2_VOICE
unfolding size
returns-then-message_type-eq-MIDI2_VOICE c = rw (sym c.message_type.ensures ∙ c.if-message_type-eq-MIDI2_VOICE.true)
