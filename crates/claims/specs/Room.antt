-- The room of the output (RULES 9.3).
use Rattle.std.specs.Prelude.{ℕ, ◌*◌, ◌<◌, ◌≤◌, ◌≡◌, ◌↔◌, List, length}
use Rattle.ump.specs.Packet.{cut}
use Rattle.stream.specs.Answers.{no_room}
use Rattle.stream.specs.Call.{Call, within}
use Rattle.stream.specs.Run.{run}
use Rattle.stream.specs.Claims.{roomed}
use Rattle.voice.specs.Packet.{call_down}
use Rattle.table.specs.Table.{table_up}

-- Of runs by any step:
pub record Roomy {T : Type 0} (step : T → List ℕ → Call T) : Type 0 where
  -- a run answers `no_room` exactly if its output is shorter than what the run with unlimited room sends
  pub short : (room : ℕ) (t : T) (s : List ℕ)
      → ((run (within step) (room, t) (cut s)).answer ≡ no_room) ↔ (room < length (run step t (cut s)).sends)
  -- and else it is that run
  pub all : (room : ℕ) (t : T) (s : List ℕ) → length (run step t (cut s)).sends ≤ room
      → run (within step) (room, t) (cut s) ≡ roomed room (run step t (cut s))
  -- An output of twice as many words as come in is long enough.
  pub twice : (room : ℕ) (t : T) (s : List ℕ) → 2 * length s ≤ room
      → ((run (within step) (room, t) (cut s)).answer ≡ no_room → ⊥)
      × (run (within step) (room, t) (cut s) ≡ roomed room (run step t (cut s)))

-- From any table, and going down.
pub record Room : Type 0 where
  pub up : Roomy table_up
  pub down : Roomy call_down
