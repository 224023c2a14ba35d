-- The beginners' room (RULES 2.5; 02 M-113): what is refused there, that all else goes up as before, that nothing is
-- remembered of banks and addresses, and demand 3 with the rule in both passes up.
use Rattle.std.specs.Prelude.{ℕ, ◌≡◌, Bool, not, ◌&&◌, List, [], ◌∷◌, ◌++◌, get_or, length, eqb, ltb}
use Rattle.ground.specs.Lists.{All}
use Rattle.ump.specs.Word.{message_type, place_of, voice1, voice2}
use Rattle.ump.specs.Packet.{cut, first, packet}
use Rattle.stream.specs.Answers.{no_room, no_table, not_for_room, not_sound, taken_in}
use Rattle.stream.specs.Call.{Call, answer_of, left_of, sent_of, stopped, went, within}
use Rattle.stream.specs.Run.{run}
use Rattle.stream.specs.Claims.{Made, calls}
use Rattle.screen.specs.Screen.{for_beginners}
use Rattle.memory.specs.Memory as Memory
use Rattle.channel.specs.declared.Record.{Record}
use Rattle.channel.specs.Record.{EmptyButMarks, empty, sound, whole_table}
use Rattle.table.specs.Table.{beginners_one_up, beginners_run_up, beginners_up, table_after}
use Rattle.claims.specs.PacketByPacket.{ByPackets}
use Rattle.stream.specs.Cases.{Case, case, numbered}
use Rattle.claims.specs.Refusals.{ByAnswer, cases_of}
use Rattle.claims.specs.Room.{Roomy}
use Rattle.claims.specs.RoundTrip.{Gated, Returns}

-- the cases of a call there: 10, then 3 to 7, then 23, then 8, 9 and 1
abbrev pub cases_beginners : ℕ → List Record → List ℕ → List Case
cases_beginners room t s =
    let p = packet s in
    case no_table (not (eqb (length t) whole_table))
    ∷ cases_of voice2 p
    ++ case not_for_room (not (for_beginners (first p)))
    ∷ case not_sound (eqb (message_type (first p)) voice1 && not (sound (get_or t (place_of (first s)) empty)))
    ∷ case no_room (ltb room (length (sent_of (beginners_up t s))))
    ∷ case taken_in (eqb (length (sent_of (beginners_up t s))) 0)
    ∷ []

-- the packet is for that room
abbrev pub for_room : List ℕ → Bool
for_room p = for_beginners (first p)

-- no record of a table remembers anything but its mark: no bank, no address, no data high
abbrev pub Forgetful : List Record → Type 0
Forgetful t = (k : ℕ) → let m = (get_or t k empty).memory in m ≡ Memory.with_mark Memory.empty m.coarse

-- nor does one after a call; one that stops leaves the table
abbrev pub Forgets : Call (ℕ × List Record) → Type 0
Forgets (went a ws u) = Forgetful u.1
Forgets (stopped a) = Unit {0}

pub record Beginners : Type 0 where
  -- each number is answered exactly in its case, and what each answer reads, sends and leaves is as everywhere
  pub answers : (room : ℕ) (t : List Record) (s : List ℕ)
      → answer_of (within beginners_up (room, t) s) ≡ numbered (cases_beginners room t s)
  pub after : (room : ℕ) (t : List Record) (s : List ℕ) → ByAnswer (room, t) s (within beginners_up (room, t) s)
  pub records : (room : ℕ) (t : List Record) (s : List ℕ) (k : ℕ) → (k ≡ place_of (first s) → ⊥)
      → get_or (left_of (room, t) (within beginners_up (room, t) s)).1 k empty ≡ get_or t k empty
  -- what is for the room goes up as before, in answer, words and record; all else sends nothing and changes nothing
  pub gate : Gated for_room beginners_up
  -- a run is its calls, so it goes on after 23; and twice as many words as come in are room enough
  pub packets : ByPackets (within beginners_up)
  pub runs : (room : ℕ) (t : List Record) (s : List ℕ) → length t ≡ whole_table
      → beginners_run_up room t s ≡ run (within beginners_up) (room, t) (cut s)
  pub roomy : Roomy beginners_up
  -- from a table that is empty but for marks, bank and address of every record stay empty, after every packet
  pub packets_forget : (t : List Record) → EmptyButMarks t → (room : ℕ) (s : List ℕ)
      → All (λ (m : Made (ℕ × List Record)). Forgets m.call) (calls (within beginners_up) (room, t) (cut s))
  pub call_forgets : (t : List Record) → EmptyButMarks t → (room : ℕ) (s : List ℕ)
      → Forgetful (table_after (beginners_one_up room t s))
  pub run_forgets : (t : List Record) → EmptyButMarks t → (room : ℕ) (s : List ℕ)
      → Forgetful (table_after (beginners_run_up room t s))
  -- demand 3, with the rule in both passes up
  pub returns : (t : List Record) → EmptyButMarks t → Returns beginners_run_up t
