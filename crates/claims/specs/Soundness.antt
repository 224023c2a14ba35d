-- Records stay sound (RULES 5.2; 02 M-105 and M-111): after every packet, from any table of sound records on, and so
-- from one that is empty but for marks.
use Rattle.std.specs.Prelude.{ℕ, ◌≡◌, List}
use Rattle.ground.specs.Lists.{All}
use Rattle.ump.specs.Packet.{cut}
use Rattle.stream.specs.Answers.{not_sound}
use Rattle.stream.specs.Call.{Call, stopped, went, within}
use Rattle.stream.specs.Claims.{Made, calls}
use Rattle.channel.specs.declared.Record.{Record}
use Rattle.channel.specs.Record.{EmptyButMarks, fresh}
use Rattle.table.specs.Table.{SoundTable, one_up, run_up, table_after, table_up}

-- a call that goes on leaves sound records; one that stops leaves the table as it was, and is not for a record that is
-- not sound
abbrev pub Soundly : Call (ℕ × List Record) → Type 0
Soundly (went a ws u) = SoundTable u.1
Soundly (stopped a) = a ≡ not_sound → ⊥

-- Of a table to start from:
pub record SoundFrom (t : List Record) : Type 0 where
  -- each call of a run leaves every record sound
  pub packets : (room : ℕ) (s : List ℕ)
      → All (λ (m : Made (ℕ × List Record)). Soundly m.call) (calls (within table_up) (room, t) (cut s))
  -- so does one call, and the run as a whole, which never answers 8
  pub call_leaves : (room : ℕ) (s : List ℕ) → SoundTable (table_after (one_up room t s))
  pub run_leaves : (room : ℕ) (s : List ℕ) → SoundTable (table_after (run_up room t s))
  pub run_answers : (room : ℕ) (s : List ℕ) → (run_up room t s).answer ≡ not_sound → ⊥

pub record Soundness : Type 0 where
  pub sounds : (t : List Record) → SoundTable t → SoundFrom t
  pub marked : (t : List Record) → EmptyButMarks t → SoundFrom t
  pub at_fresh : SoundFrom fresh
