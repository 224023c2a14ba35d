-- The coarse mark (RULES 5.9; 02 M-105): what it does to data entry, that no packet changes one, and what the call that
-- sets it answers and leaves.
use Rattle.std.specs.Prelude.{ℕ, ◌*◌, ◌≤◌, ◌^◌, ◌≡◌, true, cond, not, List, [], ◌∷◌, eqb, get_or, length}
use Rattle.scale.specs.Scale.{up}
use Rattle.stream.specs.Answers.{answered, no_table, not_sound, out_of_range}
use Rattle.memory.specs.declared.Memory.{Memory}
use Rattle.memory.specs.Memory.{address_open, marked, sound}
use Rattle.channel.specs.declared.Record.{Record}
use Rattle.channel.specs.Record.{EmptyButMarks, empty, whole_table, with_mark}
use Rattle.channel.specs.Record as Channel
use Rattle.message.specs.Message.{Midi1, control_change1}
use Rattle.lift.specs.Lift.{addressed2, lift, quiet, speaks}
use Rattle.table.specs.Table.{SoundTable, one_up, run_up, table_after}
use Rattle.question.specs.Question.{in_range, place_asked}
use Rattle.mark.specs.Mark.{mark_answer, record_of, table_marked}
use Rattle.stream.specs.Cases.{Case, case, numbered}

-- the mark at a place of a table
abbrev pub mark_on : List Record → ℕ → ℕ
mark_on t k = (get_or t k empty).memory.coarse

-- On a marked channel, with a memory that is sound:
pub record Coarsely (r : Memory) : Type 0 where
  -- controller 6 sends at once with a low half of 0, where the address is open, and nothing is remembered of it
  pub at_6 : (v : ℕ) → v ≤ 127
      → lift r (control_change1 6 v)
      ≡ cond (address_open r) (speaks r (addressed2 r (up 14 32 (v * 2 ^ 7)))) (quiet r)
  -- and controller 38 does nothing
  pub at_38 : (v : ℕ) → lift r (control_change1 38 v) ≡ quiet r

-- the cases of the setting call, in the order of 02: 10, 24, 8
abbrev pub cases_mark : List Record → ℕ → ℕ → List Case
cases_mark t group channel =
    case no_table (not (eqb (length t) whole_table))
    ∷ case out_of_range (not (in_range group channel))
    ∷ case not_sound (not (Channel.sound (record_of t group channel)))
    ∷ []

-- Of the setting call:
pub record Setting : Type 0 where
  -- each number is answered exactly in its case, and a refusal changes nothing
  pub answers : (t : List Record) (group channel : ℕ)
      → mark_answer t group channel ≡ numbered (cases_mark t group channel)
  pub refused : (t : List Record) (group channel coarse : ℕ) → (mark_answer t group channel ≡ answered → ⊥)
      → table_marked t group channel coarse ≡ t
  -- else the record that is named has the mark, and no data high; every other record stays, and the table's length
  pub marks : (t : List Record) (group channel coarse : ℕ) → mark_answer t group channel ≡ answered
      → record_of (table_marked t group channel coarse) group channel ≡ with_mark (record_of t group channel) coarse
  pub others : (t : List Record) (group channel coarse k : ℕ) → (k ≡ place_asked group channel → ⊥)
      → get_or (table_marked t group channel coarse) k empty ≡ get_or t k empty
  pub table : (t : List Record) (group channel coarse : ℕ)
      → length (table_marked t group channel coarse) ≡ length t
  -- so it keeps sound records sound, and of a table that is empty but for marks it makes another
  pub sounds : (t : List Record) (group channel coarse : ℕ) → SoundTable t
      → SoundTable (table_marked t group channel coarse)
  pub empties : (t : List Record) (group channel coarse : ℕ) → EmptyButMarks t
      → EmptyButMarks (table_marked t group channel coarse)

pub record Marks : Type 0 where
  pub coarsely : (r : Memory) → sound r ≡ true → marked r ≡ true → Coarsely r
  -- no message changes a mark, sound or not; and so no call and no run does, at any place of any table
  pub messages : (r : Memory) (m : Midi1) → (lift r m).after.coarse ≡ r.coarse
  pub calls : (room : ℕ) (t : List Record) (s : List ℕ) (k : ℕ)
      → mark_on (table_after (one_up room t s)) k ≡ mark_on t k
  pub runs : (room : ℕ) (t : List Record) (s : List ℕ) (k : ℕ)
      → mark_on (table_after (run_up room t s)) k ≡ mark_on t k
  pub setting : Setting
