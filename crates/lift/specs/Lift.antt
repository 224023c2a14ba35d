-- Going up (RULES 6; 01 "The channel record"; 004 D.3; 02 M-105): of a memory and a MIDI 1.0 message, the memory after
-- it and a MIDI 2.0 message or none.
use Rattle.std.specs.Prelude.{ℕ, ◌+◌, ◌*◌, ◌%◌, ◌^◌, Bool, cond, ◌&&◌, ◌||◌, eqb}
use Rattle.std.proofs.Math.Option.{Option, none, some}
use Rattle.scale.specs.Scale.{up}
use Rattle.memory.specs.declared.Memory.{Memory}
use Rattle.memory.specs.Memory.{address_open, assignable, data_high_present, marked, present, registered}
use Rattle.memory.specs.Memory.{with_address_bank, with_address_closed, with_address_index, with_bank_high, with_bank_low}
use Rattle.memory.specs.Memory.{with_bank_spent, with_data_high}
use Rattle.effect.specs.declared.Effect.{Effect}
use Rattle.effect.specs.declared.Effect.TheVariants.{Leaves, Presses, Releases, ReleasesAll, Remembers}
use Rattle.message.specs.Message.{Bank, Midi1, Midi2, assignable2, bank, channel_pressure1, channel_pressure2}
use Rattle.message.specs.Message.{control_change1, control_change2, no_bank, note_off1, note_off2, note_on1, note_on2}
use Rattle.message.specs.Message.{pitch_bend1}
use Rattle.message.specs.Message.{pitch_bend2, poly_pressure1, poly_pressure2, program_change1, program_change2, registered2}

-- the controller that resets all others (02 M-101)
abbrev pub reset : ℕ
reset = 121

-- what a control change is about
pub data Control : Type 0 where
  BankHigh : Control
  BankLow : Control
  RegisteredBank : Control
  RegisteredIndex : Control
  AssignableBank : Control
  AssignableIndex : Control
  DataHigh : Control
  DataLow : Control
  Nothing : Control
  Reset : Control
  Plain : Control

-- what each control change does (RULES 6.3); all that are not named here are plain
unfoldable pub control_of : ℕ → Control
control_of i =
    cond (eqb i 0) BankHigh
    (cond (eqb i 32) BankLow
    (cond (eqb i 101) RegisteredBank
    (cond (eqb i 100) RegisteredIndex
    (cond (eqb i 99) AssignableBank
    (cond (eqb i 98) AssignableIndex
    (cond (eqb i 6) DataHigh
    (cond (eqb i 38) DataLow
    (cond (eqb i 96 || eqb i 97) Nothing
    (cond (eqb i reset) Reset Plain)))))))))

pub record Lifted : Type 0 where
  pub after : Memory
  pub sends : Option Midi2

-- the message is taken in, and nothing is sent
abbrev pub quiet : Memory → Lifted
quiet r = record { after = r; sends = none }

abbrev pub speaks : Memory → Midi2 → Lifted
speaks r m = record { after = r; sends = some m }

-- the message to the memory's address
unfoldable pub addressed2 : Memory → ℕ → Midi2
addressed2 r v =
    cond (eqb r.kind registered) (registered2 r.address_bank r.address_index v)
    (assignable2 r.address_bank r.address_index v)

-- the value of two halves, entered at that address; the memory is not changed
abbrev pub enters : Memory → ℕ → ℕ → Lifted
enters r high low = speaks r (addressed2 r (up 14 32 ((high * 2 ^ 7 + low) % 2 ^ 14)))

-- Control change 6 (RULES 6.4): on a marked channel it enters a value with a low half of 0, where the address is open.
-- Else it is kept, where it can be.
unfoldable pub data_high : Memory → ℕ → Lifted
data_high r v = cond (marked r && address_open r) (enters r v 0) (quiet (with_data_high r v))

-- Control change 38: beside data high it enters the value of both. Without data high, and so on a marked channel, it
-- does nothing.
unfoldable pub data_low : Memory → ℕ → Lifted
data_low r v = cond (data_high_present r) (enters r r.data_high v) (quiet r)

-- a controller that is sent as itself
abbrev pub plain : Memory → ℕ → ℕ → Lifted
plain r i v = speaks r (control_change2 i (up 7 32 v))

unfoldable pub controlled : Control → Memory → ℕ → ℕ → Lifted
controlled BankHigh r i v = quiet (with_bank_high r v)
controlled BankLow r i v = quiet (with_bank_low r v)
controlled RegisteredBank r i v = quiet (with_address_bank registered r v)
controlled RegisteredIndex r i v = quiet (with_address_index registered r v)
controlled AssignableBank r i v = quiet (with_address_bank assignable r v)
controlled AssignableIndex r i v = quiet (with_address_index assignable r v)
controlled DataHigh r i v = data_high r v
controlled DataLow r i v = data_low r v
controlled Nothing r i v = quiet r
controlled Reset r i v = plain (with_address_closed r) i v
controlled Plain r i v = plain r i v

-- the bank that goes with a program: both halves, or none (RULES 6.5)
unfoldable pub banked2 : Memory → Bank
banked2 r =
    cond (present r.bank_high && present r.bank_low) (bank r.bank_high r.bank_low) no_bank

-- Notes (RULES 6.1), pressure and bend (6.2), control changes (6.3), program changes (6.5). A Note On without velocity
-- is a Note Off.
unfoldable pub lift : Memory → Midi1 → Lifted
lift r (note_off1 n v) = speaks r (note_off2 n (up 7 16 v))
lift r (note_on1 n v) = speaks r (cond (eqb v 0) (note_off2 n 0) (note_on2 n (up 7 16 v)))
lift r (poly_pressure1 n v) = speaks r (poly_pressure2 n (up 7 32 v))
lift r (control_change1 i v) = controlled (control_of i) r i v
lift r (program_change1 p) = speaks (with_bank_spent r) (program_change2 p (banked2 r))
lift r (channel_pressure1 v) = speaks r (channel_pressure2 (up 7 32 v))
lift r (pitch_bend1 v) = speaks r (pitch_bend2 (up 14 32 v))

-- the controllers that release every key; 121, which resets controllers, is none of them (RULES 5.7; 02 M-103)
abbrev pub ends_notes : ℕ → Bool
ends_notes i = eqb i 120 || eqb i 123

-- what a control change, and what a message does to its channel's record
unfoldable pub plain_effect : ℕ → Effect
plain_effect i = cond (ends_notes i) ReleasesAll Leaves

unfoldable pub control_effect : Control → ℕ → Effect
control_effect BankHigh i = Remembers
control_effect BankLow i = Remembers
control_effect RegisteredBank i = Remembers
control_effect RegisteredIndex i = Remembers
control_effect AssignableBank i = Remembers
control_effect AssignableIndex i = Remembers
control_effect DataHigh i = Remembers
control_effect DataLow i = Leaves
control_effect Nothing i = Leaves
control_effect Reset i = Remembers
control_effect Plain i = plain_effect i

unfoldable pub effect_of : Midi1 → Effect
effect_of (note_off1 n v) = Releases
effect_of (note_on1 n v) = cond (eqb v 0) Releases Presses
effect_of (poly_pressure1 n v) = Leaves
effect_of (control_change1 i v) = control_effect (control_of i) i
effect_of (program_change1 p) = Remembers
effect_of (channel_pressure1 v) = Leaves
effect_of (pitch_bend1 v) = Leaves

-- the status that a note is sent with: without velocity it is a Note Off
unfoldable pub shown_status : ℕ → ℕ → ℕ
shown_status s v = cond (eqb v 0) 8 s

-- and what a note of that status does to its key
unfoldable pub key_effect : ℕ → Effect
key_effect s = cond (eqb s 8) Releases Presses
