-- Calls and runs over the table that the caller lends (RULES 3 and 4).
use Rattle.std.specs.Prelude.{ℕ, ◌≡◌, Bool, true, false, cond, List, [], get_or, length, set, eqb}
use Rattle.ump.specs.Word.{place_of}
use Rattle.ump.specs.Packet.{cut, first, packet}
use Rattle.stream.specs.Answers.{no_table}
use Rattle.stream.specs.Call.{Call, stopped, went, within}
use Rattle.stream.specs.Run.{Ran, called, run}
use Rattle.screen.specs.declared.Rule.{Rule}
use Rattle.screen.specs.Screen.{beginners_rule, open_rule}
use Rattle.channel.specs.declared.Record.{Record}
use Rattle.channel.specs.Record.{empty, sound, whole_table}
use Rattle.voice.specs.Packet.{call_by}

-- one place of the table is replaced
abbrev pub stored : List Record → ℕ → Call Record → Call (List Record)
stored t k (went a ws r) = went a ws (set t k r)
stored t k (stopped a) = stopped a

-- One call up under a rule: with a table that is not whole it stops, and else it is the call with the packet's own
-- record. That is asked to be sound, unless the records are known to be (02 M-111).
unfoldable pub table_by : Rule → Bool → List Record → List ℕ → Call (List Record)
table_by rule known t s =
    cond (eqb (length t) whole_table)
    (stored t (place_of (first s)) (call_by rule known (get_or t (place_of (first s)) empty) s))
    (stopped no_table)

abbrev pub table_up : List Record → List ℕ → Call (List Record)
table_up = table_by open_rule false

-- the same in the beginners' room (02 M-113)
abbrev pub beginners_up : List Record → List ℕ → Call (List Record)
beginners_up = table_by beginners_rule false

-- A run up by any step, in an output of so many words: the table is asked once more than there are packets.
abbrev pub run_by : (List Record → List ℕ → Call (List Record)) → ℕ → List Record → List ℕ → Ran (ℕ × List Record)
run_by step room t s =
    cond (eqb (length t) whole_table) (run (within step) (room, t) (cut s))
    (record { answer = no_table; read = 0; sends = []; left = (room, t) })

unfoldable pub run_up : ℕ → List Record → List ℕ → Ran (ℕ × List Record)
run_up room t s = run_by table_up room t s

-- one call up by any step, told as a run is
abbrev pub one_by : (List Record → List ℕ → Call (List Record)) → ℕ → List Record → List ℕ → Ran (ℕ × List Record)
one_by step room t s = called (packet s) (room, t) (within step (room, t) s)

unfoldable pub one_up : ℕ → List Record → List ℕ → Ran (ℕ × List Record)
one_up room t s = one_by table_up room t s

-- a run and one call in the beginners' room
unfoldable pub beginners_run_up : ℕ → List Record → List ℕ → Ran (ℕ × List Record)
beginners_run_up room t s = run_by beginners_up room t s

unfoldable pub beginners_one_up : ℕ → List Record → List ℕ → Ran (ℕ × List Record)
beginners_one_up room t s = one_by beginners_up room t s

-- the table after a call or a run
abbrev pub table_after : Ran (ℕ × List Record) → List Record
table_after r = r.left.1

-- every record of a table is sound
abbrev pub SoundTable : List Record → Type 0
SoundTable t = (i : ℕ) → sound (get_or t i empty) ≡ true
