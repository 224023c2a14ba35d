-- A rescue, packet by packet (RULES 15; 02 M-109): a run that keeps, and a run that tells.
use Rattle.std.specs.Prelude.{ℕ, ◌+◌, cond, List, eqb, length}
use Rattle.ump.specs.Packet.{cut, packet}
use Rattle.stream.specs.Answers.{cut_packet, sent}
use Rattle.stream.specs.Call.{Call, answer_of, fit, left_of, read_of, sent_of, stopped, went, within}
use Rattle.stream.specs.Report.{counting}
use Rattle.stream.specs.Run.{Ran, run}
use Rattle.recording.specs.declared.Past.{Past}
use Rattle.recording.specs.Recording.{kept_of, line_of, past_after, text_of}
use Rattle.rescuing.specs.declared.Told.{Told}

-- a packet is read and a row is written for it; the empty part, where none is whole, stops
abbrev pub rowed : {T : Type 0} → List ℕ → List ℕ → T → Call T
rowed p row u = cond (eqb (length p) 0) (stopped cut_packet) (went sent row u)

-- a packet that is handed on, with room for so many words
abbrev pub handed : ℕ → List ℕ → Call (ℕ × Unit {0})
handed room p = fit room (went sent p tt)

-- what is said of a packet after what went before it, with room for so many bytes
abbrev pub said : ℕ → Past → List ℕ → Call (ℕ × Past)
said room past p = fit room (went sent (text_of (line_of past p)) (past_after past p))

-- the packet that stands first in the words left is kept or not
unfoldable pub keep : Unit {0} → List ℕ → Call (Unit {0})
keep t s = rowed (packet s) (kept_of (packet s)) tt

-- and what is said of it after what went before
unfoldable pub tell : Past → List ℕ → Call Past
tell past s = rowed (packet s) (text_of (line_of past (packet s))) (past_after past (packet s))

-- the runs over the words s, with room for so many words, and for so many bytes of text
abbrev pub run_keep : ℕ → List ℕ → Ran (ℕ × Unit {0})
run_keep room s = run (within keep) (room, tt) (cut s)

abbrev pub run_tell : ℕ → Past → List ℕ → Ran (ℕ × Past)
run_tell room past s = run (within tell) (room, past) (cut s)

-- what the call c at the packet p comes to after what was told so far
abbrev pub turn_of : Told → List ℕ → ℕ → Call (ℕ × Past) → Told
turn_of t p room c =
    record {
      past = (left_of (room, t.past) c).1;
      done = counting (answer_of c) (t.done.read + read_of p c) (t.done.written + length (sent_of c));
    }
