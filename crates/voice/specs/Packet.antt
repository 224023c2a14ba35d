-- One packet up with its record, and one packet down: cut, type, check, act (RULES 3, 6 and 8).
use Rattle.std.specs.Prelude.{ℕ, Bool, false, cond, ◌||◌, List, [], ◌∷◌, map, eqb}
use Rattle.std.proofs.Math.Option.{Option, none, some}
use Rattle.ump.specs.declared.Group.{Group}
use Rattle.ump.specs.declared.Channel.{Channel}
use Rattle.ump.specs.Word.{channel_of, group_of, message_type, voice1, voice2}
use Rattle.ump.specs.Packet.{cut, first, packet, second}
use Rattle.stream.specs.Answers.{no_form, not_sound, sent, taken_in}
use Rattle.stream.specs.Call.{Call, stopped, went, within}
use Rattle.stream.specs.Run.{Ran, called, run}
use Rattle.screen.specs.declared.Rule.{Rule}
use Rattle.screen.specs.Screen.{open_rule, screen_by, screened}
use Rattle.channel.specs.declared.Record.{Record}
use Rattle.channel.specs.Record.{sound}
use Rattle.message.specs.Message.{Midi1, Midi2, read1, read2, write1, write2}
use Rattle.effect.specs.declared.Effect.{Effect}
use Rattle.effect.specs.declared.Effect.TheVariants.{Leaves}
use Rattle.lift.specs.Lift.{effect_of, lift}
use Rattle.lift.specs.Played.{record_after}
use Rattle.lower.specs.Lower.{lower}

-- what a lifted message sends: its two words, or nothing
abbrev pub sending : Group → Channel → Record → Option Midi2 → Call Record
sending g c r none = went taken_in [] r
sending g c r (some m) = went sent (write2 g c m) r

-- the call of a MIDI 1.0 voice message with a sound record
abbrev pub spoken : Record → ℕ → Call Record
spoken r w = sending (group_of w) (channel_of w) (record_after r (read1 w)) (lift r.memory (read1 w)).sends

-- a checked MIDI 1.0 voice message acts with its record, if that is sound, which `ok` says
unfoldable pub speak_if : Bool → Record → ℕ → Call Record
speak_if ok r w = cond ok (spoken r w) (stopped not_sound)

-- what a MIDI 2.0 message becomes, unless it has no form
abbrev pub sending_down : Group → Channel → List Midi1 → Call (Unit {0})
sending_down g c [] = went no_form [] tt
sending_down g c (m ∷ ms) = went sent (map (write1 g c) (m ∷ ms)) tt

unfoldable pub speak_down : ℕ → ℕ → Call (Unit {0})
speak_down w v = sending_down (group_of w) (channel_of w) (lower (read2 w v))

abbrev pub voice_down : List ℕ → Call (Unit {0})
voice_down p = speak_down (first p) (second p)

-- the act of a packet that has been screened: voice messages are translated, and all others are sent on unchanged
abbrev pub act_if : Bool → Record → List ℕ → Call Record
act_if ok r p = cond (eqb (message_type (first p)) voice1) (speak_if ok r (first p)) (went sent p r)

abbrev pub act_down : List ℕ → Call (Unit {0})
act_down p = cond (eqb (message_type (first p)) voice2) (voice_down p) (went sent p tt)

-- What a packet does under a rule, going up with its own record; and going down, where no record is needed.
unfoldable pub packet_if : Rule → Bool → Record → List ℕ → Call Record
packet_if rule ok r p = screened (screen_by rule voice2 p) r (act_if ok r p)

abbrev pub packet_up : Record → List ℕ → Call Record
packet_up r p = packet_if open_rule (sound r) r p

unfoldable pub packet_down_by : Rule → List ℕ → Call (Unit {0})
packet_down_by rule p = screened (screen_by rule voice1 p) tt (act_down p)

abbrev pub packet_down : List ℕ → Call (Unit {0})
packet_down = packet_down_by open_rule

-- the same for a packet that is no voice message of either protocol, or of the wrong one
abbrev pub onward_of : Rule → ℕ → List ℕ → Call (Unit {0})
onward_of rule wrong p = screened (screen_by rule wrong p) tt (went sent p tt)

-- what a packet may do to its record
abbrev pub effect_at : List ℕ → Effect
effect_at p = cond (eqb (message_type (first p)) voice1) (effect_of (read1 (first p))) Leaves

-- One call under a rule: the packet that stands first in the words left. Soundness is asked of its record, unless that
-- is known to be sound (02 M-111).
unfoldable pub call_by : Rule → Bool → Record → List ℕ → Call Record
call_by rule known r s = packet_if rule (known || sound r) r (packet s)

abbrev pub call_up : Record → List ℕ → Call Record
call_up = call_by open_rule false

unfoldable pub call_down_by : Rule → Unit {0} → List ℕ → Call (Unit {0})
call_down_by rule t s = packet_down_by rule (packet s)

abbrev pub call_down : Unit {0} → List ℕ → Call (Unit {0})
call_down = call_down_by open_rule

-- one call down, told as a run is, and a run down, in an output of so many words
unfoldable pub one_down_by : Rule → ℕ → List ℕ → Ran (ℕ × Unit {0})
one_down_by rule room s = called (packet s) (room, tt) (within (call_down_by rule) (room, tt) s)

abbrev pub one_down : ℕ → List ℕ → Ran (ℕ × Unit {0})
one_down = one_down_by open_rule

unfoldable pub run_down_by : Rule → ℕ → List ℕ → Ran (ℕ × Unit {0})
run_down_by rule room s = run (within (call_down_by rule)) (room, tt) (cut s)

abbrev pub run_down : ℕ → List ℕ → Ran (ℕ × Unit {0})
run_down = run_down_by open_rule
