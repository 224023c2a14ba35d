-- Demand 1 (RULES 3): a packet is refused only in its case, and what each answer leaves.
use Rattle.std.specs.Prelude.{ℕ, ◌≤◌, ◌≡◌, cond, not, ◌&&◌, List, [], ◌∷◌, ◌++◌, get_or, length, eqb, ltb}
use Rattle.ump.specs.Word.{message_type, place_of, voice1, voice2}
use Rattle.ump.specs.Packet.{first, packet, second, size}
use Rattle.stream.specs.Answers.{bad_data, bad_status, cut_packet, no_form, no_room, no_table, not_sound, reserved_type, sent}
use Rattle.stream.specs.Answers.{stops_run, taken_in, wrong_protocol}
use Rattle.stream.specs.Cases.{Case, case, numbered}
use Rattle.stream.specs.Call.{Call, answer_of, left_of, read_of, sent_of, within}
use Rattle.fields.specs.Check.{checked_fields, good_fields, good_status}
use Rattle.screen.specs.Screen.{reserved}
use Rattle.channel.specs.declared.Record.{Record}
use Rattle.channel.specs.Record.{empty, sound, whole_table}
use Rattle.message.specs.Message.{read2}
use Rattle.lower.specs.Lower.{lower}
use Rattle.voice.specs.Packet.{call_down}
use Rattle.table.specs.Table.{table_up}

-- the cases that both directions have, at the packet p, in the order of RULES 3.2: 3, 4, 5, 6, 7
abbrev pub cases_of : ℕ → List ℕ → List Case
cases_of wrong p =
    case cut_packet (eqb (length p) 0)
    ∷ case reserved_type (reserved (message_type (first p)))
    ∷ case wrong_protocol (eqb (message_type (first p)) wrong)
    ∷ case bad_status (not (good_status (first p)))
    ∷ case bad_data (not (good_fields (checked_fields (first p) (second p))))
    ∷ []

-- going up, in an output of so many words, with the table t, at the words s: 10, those, 8, 9, 1
abbrev pub cases_up : ℕ → List Record → List ℕ → List Case
cases_up room t s =
    let p = packet s in
    case no_table (not (eqb (length t) whole_table))
    ∷ cases_of voice2 p
    ++ case not_sound (eqb (message_type (first p)) voice1 && not (sound (get_or t (place_of (first s)) empty)))
    ∷ case no_room (ltb room (length (sent_of (table_up t s))))
    ∷ case taken_in (eqb (length (sent_of (table_up t s))) 0)
    ∷ []

-- going down, where no table is needed: those, 2, 9
abbrev pub cases_down : ℕ → List ℕ → List Case
cases_down room s =
    let p = packet s in
    cases_of voice1 p
    ++ case no_form (eqb (message_type (first p)) voice2 && eqb (length (lower (read2 (first p) (second p)))) 0)
    ∷ case no_room (ltb room (length (sent_of (call_down tt s))))
    ∷ []

-- What a call in a state t at the words s reads, sends and leaves, by its answer.
pub record ByAnswer {T : Type 0} (t : ℕ × T) (s : List ℕ) (c : Call (ℕ × T)) : Type 0 where
  -- the packet's size, or nothing (RULES 3.1)
  pub reads : read_of (packet s) c ≡ cond (stops_run (answer_of c)) 0 (size (first s))
  -- a refusal leaves table and output untouched (RULES 3.3)
  pub untouched : 2 ≤ answer_of c → (sent_of c ≡ []) × (left_of t c ≡ t)
  -- 1 to 4 words are sent, or none (RULES 3.4)
  pub speaking : answer_of c ≡ sent → (1 ≤ length (sent_of c)) × (length (sent_of c) ≤ 4)
  pub quietly : answer_of c ≡ taken_in → sent_of c ≡ []

-- Demand 1: each number is answered exactly in its listed case.
pub record Refusals : Type 0 where
  pub up : (room : ℕ) (t : List Record) (s : List ℕ)
      → answer_of (within table_up (room, t) s) ≡ numbered (cases_up room t s)
  pub down : (room : ℕ) (s : List ℕ) → answer_of (within call_down (room, tt) s) ≡ numbered (cases_down room s)
  pub after_up : (room : ℕ) (t : List Record) (s : List ℕ) → ByAnswer (room, t) s (within table_up (room, t) s)
  pub after_down : (room : ℕ) (s : List ℕ) → ByAnswer (room, tt) s (within call_down (room, tt) s)
  -- every other record stays, and the table keeps its length
  pub records : (room : ℕ) (t : List Record) (s : List ℕ) (k : ℕ) → (k ≡ place_of (first s) → ⊥)
      → get_or (left_of (room, t) (within table_up (room, t) s)).1 k empty ≡ get_or t k empty
  pub table : (room : ℕ) (t : List Record) (s : List ℕ)
      → length (left_of (room, t) (within table_up (room, t) s)).1 ≡ length t
