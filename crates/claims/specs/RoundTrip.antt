-- Demand 3 (RULES 9.1): up, down and up again.
use Rattle.std.specs.Prelude.{ℕ, ◌≡◌, Bool, true, false, List, [], ◌∷◌, get_or, length}
use Rattle.std.proofs.Math.Option.{some}
use Rattle.ground.specs.Lists.{All}
use Rattle.ump.specs.Word.{channel_of, group_of, message_type, voice1}
use Rattle.ump.specs.Packet.{first, packet}
use Rattle.stream.specs.Answers.{no_room}
use Rattle.stream.specs.Call.{Call, left_of, sent_of}
use Rattle.stream.specs.Run.{Ran}
use Rattle.screen.specs.declared.Rule.{Rule}
use Rattle.channel.specs.declared.Record.{Record}
use Rattle.channel.specs.Record.{EmptyButMarks, empty, fresh, sound, whole_table}
use Rattle.message.specs.Message.{Midi1, Midi2, no_bank, read1, write1, write2}
use Rattle.lift.specs.Lift.{banked2, lift}
use Rattle.lower.specs.Lower.{lower}
use Rattle.voice.specs.Packet.{call_down, call_down_by, run_down, run_down_by}
use Rattle.table.specs.Table.{SoundTable, run_by, run_up, table_up}

-- A table to start from: a whole one, of sound records, and none has a bank that the next program change would take
-- along. An address may stand in it, and so may half a bank; any keys may be down, and any channels marked coarse.
pub record Blank (t : List Record) : Type 0 where
  pub whole : length t ≡ whole_table
  pub sounds : SoundTable t
  pub bankless : (k : ℕ) → banked2 (get_or t k empty).memory ≡ no_bank

-- Any stream, up from the table t, down, and up again from the same table, marks and all, each in an output with room
-- for all: the second stream of MIDI 2.0 words is the first. Packets may be refused on the way, and the last may be
-- cut.
abbrev pub ReturnsBy : (ℕ → List Record → List ℕ → Ran (ℕ × List Record))
    → (ℕ → List ℕ → Ran (ℕ × Unit {0})) → List Record → Type 0
ReturnsBy up down t =
    (s : List ℕ) (a b c : ℕ) →
    let x = up a t s in
    let y = down b x.sends in
    let z = up c t y.sends in
    (x.answer ≡ no_room → ⊥) → (y.answer ≡ no_room → ⊥) → (z.answer ≡ no_room → ⊥)
    → z.sends ≡ x.sends

abbrev pub Returns : (ℕ → List Record → List ℕ → Ran (ℕ × List Record)) → List Record → Type 0
Returns up t = ReturnsBy up run_down t

-- Demand 3, of the runs that the functions promise: from any such table, so from any that is empty but for marks, and
-- so from a fresh one.
pub record RoundTrip : Type 0 where
  pub blank : (t : List Record) → Blank t → Returns run_up t
  pub marked : (t : List Record) → EmptyButMarks t → Returns run_up t
  pub at_fresh : Returns run_up fresh

-- A step up with a rule about which packets may pass, read off the packet that stands first. What passes goes up as
-- before. What does not is refused: nothing is sent, and the table stays.
pub record Gated (passes : List ℕ → Bool) (step : List Record → List ℕ → Call (List Record)) : Type 0 where
  pub as_before : (t : List Record) (s : List ℕ) → length t ≡ whole_table → passes (packet s) ≡ true
      → step t s ≡ table_up t s
  pub held : (t : List Record) (s : List ℕ) → length t ≡ whole_table → passes (packet s) ≡ false
      → (sent_of (step t s) ≡ []) × (left_of t (step t s) ≡ t)

-- What passes still passes after going up and down: if p passes, and with some record sends x up, then so does each
-- message that x is going down. (A packet that is sent on unchanged comes back as itself.)
abbrev pub StillPasses : (List ℕ → Bool) → Type 0
StillPasses passes =
    (p : List ℕ) (r : Record) (x : Midi2) →
    let w = first p in
    passes p ≡ true → message_type w ≡ voice1 → sound r ≡ true → (lift r.memory (read1 w)).sends ≡ some x
    → All (λ (m : Midi1). passes (write1 (group_of w) (channel_of w) m ∷ []) ≡ true) (lower x)

-- A rule going down as well: what passes going up passes it, as it is or as the message that it is sent up as.
pub record GatedDown (passes : List ℕ → Bool) (rule : Rule) : Type 0 where
  pub onward : (p : List ℕ) → passes p ≡ true → call_down_by rule tt p ≡ call_down tt p
  pub spoken : (p : List ℕ) (r : Record) (x : Midi2) →
      let w = first p in
      passes p ≡ true → message_type w ≡ voice1 → sound r ≡ true
      → (lift r.memory (read1 w)).sends ≡ some x
      → let q = write2 (group_of w) (channel_of w) x in call_down_by rule tt q ≡ call_down tt q

-- Demand 3 with the same rule in both passes up, and one going down, for any such rules.
abbrev pub RoundTripFenced : Type 0
RoundTripFenced =
    (passes : List ℕ → Bool) (step : List Record → List ℕ → Call (List Record)) (rule : Rule)
    → Gated passes step → StillPasses passes → GatedDown passes rule
    → (t : List Record) → Blank t → ReturnsBy (run_by step) (run_down_by rule) t

-- And so with the same rule in both passes up, and none going down.
abbrev pub RoundTripGated : Type 0
RoundTripGated =
    (passes : List ℕ → Bool) (step : List Record → List ℕ → Call (List Record))
    → Gated passes step → StillPasses passes
    → (t : List Record) → Blank t → Returns (run_by step) t
