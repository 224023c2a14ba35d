-- Which field was bad (RULES 2.4; 02 M-102): a place is that of the first bad field, and a call tells one exactly with
-- answer 7.
use Rattle.std.specs.Prelude.{ℕ, suc, ◌≡◌, true, List, get_or}
use Rattle.ump.specs.Packet.{packet}
use Rattle.fields.specs.Check.{Field, FirstBad, bad_place, bad_place_of, good, seven}
use Rattle.stream.specs.Answers.{bad_data}
use Rattle.stream.specs.Call.{Call, answer_of, within}
use Rattle.stream.specs.Report.{further, nothing_yet}
use Rattle.channel.specs.declared.Record.{Record}
use Rattle.voice.specs.Packet.{call_down}
use Rattle.table.specs.Table.{table_up}

-- what the call c at the packet p tells: with answer 7 the place of its first bad field, and there is one; else none
pub record PlaceTold {T : Type 0} (p : List ℕ) (c : Call T) : Type 0 where
  pub with_7 : answer_of c ≡ bad_data → ((further nothing_yet p c).place ≡ bad_place_of p) × (bad_place_of p ≡ 0 → ⊥)
  pub without : (answer_of c ≡ bad_data → ⊥) → (further nothing_yet p c).place ≡ 0

pub record Places : Type 0 where
  pub first_bad : (fs : List Field) (k : ℕ) → bad_place fs ≡ suc k → FirstBad fs k
  pub none_bad : (fs : List Field) → bad_place fs ≡ 0 → (i : ℕ) → good (get_or fs i (seven 0)) ≡ true
  pub up : (room : ℕ) (t : List Record) (s : List ℕ) → PlaceTold (packet s) (within table_up (room, t) s)
  pub down : (room : ℕ) (s : List ℕ) → PlaceTold (packet s) (within call_down (room, tt) s)
