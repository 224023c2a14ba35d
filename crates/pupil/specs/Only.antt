-- One channel's packets alone (RULES 11; 02 M-108): those of a group and channel that are MIDI 1.0 voice messages,
-- unchanged and in order, refused ones among them.
use Rattle.std.specs.Prelude.{ℕ, ◌-◌, Bool, cond, ◌&&◌, List, [], ◌∷◌, eqb, drop, length}
use Rattle.ump.specs.Word.{channel_of, group_of, message_type, voice1}
use Rattle.ump.specs.Packet.{cut, first, packet}
use Rattle.stream.specs.declared.Done.{Done}
use Rattle.stream.specs.Answers.{cut_packet, out_of_range, sent, taken_in}
use Rattle.stream.specs.Call.{Call, fit, stopped, went, within}
use Rattle.stream.specs.Run.{Ran, run}
use Rattle.question.specs.Question.{in_range}

-- a packet of that group and channel, by its first word
abbrev pub is_on : ℕ → ℕ → ℕ → Bool
is_on group channel w = eqb (group_of w).0 group && eqb (channel_of w).0 channel

-- and one that is a MIDI 1.0 voice message, whatever its status and its data
abbrev pub voice_on : ℕ → ℕ → ℕ → Bool
voice_on group channel w = eqb (message_type w) voice1 && is_on group channel w

-- What becomes of a packet, or of the empty part where none is whole: it is handed back, or passed over with nothing to
-- send.
abbrev pub picked : ℕ → ℕ → List ℕ → Call (Unit {0})
picked group channel p =
    cond (eqb (length p) 0) (stopped cut_packet)
    (cond (voice_on group channel (first p)) (went sent p tt) (went taken_in [] tt))

-- the same of the packet that stands first in the words left
unfoldable pub pick : ℕ → ℕ → Unit {0} → List ℕ → Call (Unit {0})
pick group channel t s = picked group channel (packet s)

-- and at the packet that is next, after what was reported so far, with the room that the output still has
abbrev pub pick_at : ℕ → ℕ → List ℕ → Done → List ℕ → Call (ℕ × Unit {0})
pick_at group channel ws d out = within (pick group channel) (length out - d.written, tt) (drop d.read ws)

-- where that is one word, which is handed back
abbrev pub handed_at : ℕ → Done → List ℕ → Call (ℕ × Unit {0})
handed_at w d out = fit (length out - d.written) (went sent (w ∷ []) tt)

-- A run over the words s, in an output of so many words: 24 first, and then every packet.
unfoldable pub only : ℕ → ℕ → ℕ → List ℕ → Ran (ℕ × Unit {0})
only group channel room s =
    cond (in_range group channel) (run (within (pick group channel)) (room, tt) (cut s))
    (record { answer = out_of_range; read = 0; sends = []; left = (room, tt) })
