-- The record after a message (RULES 5.7; 02 M-103): the keys that are then down, and what is then remembered.
use Rattle.std.specs.Prelude.{cond, eqb}
use Rattle.keys.specs.declared.Keys.{Keys}
use Rattle.keys.specs.History.{Event, clear, effect, other, press, release}
use Rattle.channel.specs.declared.Record.{Record}
use Rattle.message.specs.Message.{Midi1, channel_pressure1, control_change1, note_off1, note_on1, pitch_bend1, poly_pressure1}
use Rattle.message.specs.Message.{program_change1}
use Rattle.lift.specs.Lift.{ends_notes, lift}

-- what a message does to the keys of its channel; a Note On without velocity is a Note Off
unfoldable pub event : Midi1 → Event
event (note_off1 n v) = release n
event (note_on1 n v) = cond (eqb v 0) (release n) (press n)
event (poly_pressure1 n v) = other
event (control_change1 i v) = cond (ends_notes i) clear other
event (program_change1 p) = other
event (channel_pressure1 v) = other
event (pitch_bend1 v) = other

abbrev pub keys_after : Keys → Midi1 → Keys
keys_after s m = effect s (event m)

abbrev pub record_after : Record → Midi1 → Record
record_after r m = record { keys = keys_after r.keys m; memory = (lift r.memory m).after }
