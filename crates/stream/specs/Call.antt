-- What one call does with one packet (RULES 3), over any state that it leaves changed or not.
use Rattle.std.specs.Prelude.{ℕ, ◌-◌, cond, List, [], length, leb}
use Rattle.stream.specs.Answers.{no_room, stops_run}

-- It read the packet: its answer, the words sent and the state left. Or it read nothing, by an answer that stops a run:
-- no word is sent, and the state is as it was.
pub data Call (T : Type 0) : Type 0 where
  went : ℕ → List ℕ → T → Call T
  stopped : ℕ → Call T

abbrev pub answer_of : {T : Type 0} → Call T → ℕ
answer_of (went a ws u) = a
answer_of (stopped a) = a

-- the words read of the packet p: all of them, or none
abbrev pub read_of : {T : Type 0} → List ℕ → Call T → ℕ
read_of p (went a ws u) = length p
read_of p (stopped a) = 0

abbrev pub sent_of : {T : Type 0} → Call T → List ℕ
sent_of (went a ws u) = ws
sent_of (stopped a) = []

abbrev pub left_of : {T : Type 0} → T → Call T → T
left_of t (went a ws u) = u
left_of t (stopped a) = t

-- A packet that is refused in the state t: nothing is sent, and the state stays. The packet is read, unless its answer
-- stops a run.
unfoldable pub refused : {T : Type 0} → ℕ → T → Call T
refused a t = cond (stops_run a) (stopped a) (went a [] t)

-- The same call where the output has so many free words (RULES 3.4). The room left goes with the state.
abbrev pub fit : {T : Type 0} → ℕ → Call T → Call (ℕ × T)
fit room (went a ws u) = cond (leb (length ws) room) (went a ws (room - length ws, u)) (stopped no_room)
fit room (stopped a) = stopped a

unfoldable pub within : {T : Type 0} → (T → List ℕ → Call T) → ℕ × T → List ℕ → Call (ℕ × T)
within step s p = fit s.0 (step s.1 p)
