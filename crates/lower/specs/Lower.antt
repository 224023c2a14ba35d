-- Going down (RULES 8; 01 "Going down"; 004 D.2): a MIDI 2.0 message is a list of MIDI 1.0 messages, none where it has
-- no MIDI 1.0 form.
use Rattle.std.specs.Prelude.{ℕ, ◌/◌, ◌%◌, ◌^◌, cond, ◌&&◌, List, [], ◌∷◌, eqb}
use Rattle.scale.specs.Scale.{down}
use Rattle.message.specs.Message.{Midi1, Midi2, assignable2, assignable_per_note2, bank, channel_pressure1, part}
use Rattle.message.specs.Message.{channel_pressure2, control_change1, control_change2, no_bank, note_off1, note_off2, note_on1}
use Rattle.message.specs.Message.{note_on2, per_note_management2, per_note_pitch_bend2, pitch_bend1, pitch_bend2, poly_pressure1}
use Rattle.message.specs.Message.{poly_pressure2, program_change1, program_change2, registered2, registered_per_note2}
use Rattle.message.specs.Message.{relative_assignable2, relative_registered2}

-- a Note On keeps sounding where its velocity drops to nothing
unfoldable pub sounding : ℕ → ℕ
sounding v = cond (eqb v 0) 1 v

-- an address, and then the two halves of a 14-bit value
abbrev pub entered : ℕ → ℕ → ℕ → ℕ → ℕ → List Midi1
entered bank_control b index_control i x =
    control_change1 bank_control b ∷ control_change1 index_control i ∷ control_change1 6 (x / 2 ^ 7)
    ∷ control_change1 38 (x % 2 ^ 7) ∷ []

-- A message of an address, unless it is the null address, and a program with its bank become several. A controller that
-- is only a part of a message has no form of its own, nor have the messages that MIDI 1.0 does not know.
unfoldable pub lower : Midi2 → List Midi1
lower (registered_per_note2 n i v) = []
lower (assignable_per_note2 n i v) = []
lower (registered2 b i v) = cond (eqb b 127 && eqb i 127) [] (entered 101 b 100 i (down 32 14 v))
lower (assignable2 b i v) = entered 99 b 98 i (down 32 14 v)
lower (relative_registered2 b i v) = []
lower (relative_assignable2 b i v) = []
lower (per_note_pitch_bend2 n v) = []
lower (note_off2 n v) = note_off1 n (down 16 7 v) ∷ []
lower (note_on2 n v) = note_on1 n (sounding (down 16 7 v)) ∷ []
lower (poly_pressure2 n v) = poly_pressure1 n (down 32 7 v) ∷ []
lower (control_change2 i v) = cond (part i) [] (control_change1 i (down 32 7 v) ∷ [])
lower (per_note_management2 n f) = []
lower (program_change2 p no_bank) = program_change1 p ∷ []
lower (program_change2 p (bank h l)) = control_change1 0 h ∷ control_change1 32 l ∷ program_change1 p ∷ []
lower (channel_pressure2 v) = channel_pressure1 (down 32 7 v) ∷ []
lower (pitch_bend2 v) = pitch_bend1 (down 32 14 v) ∷ []
