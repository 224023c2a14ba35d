-- What the packets of a run are treated with (RULES 4): a step that looks at its own packet alone, and goes on only with
-- a whole one.
use Rattle.std.specs.Prelude.{ℕ, ◌≡◌, ◌≤◌, ◌-◌, List, ◌∷◌, drop, length, take}
use Rattle.ump.specs.Packet.{cut, first, packet, size}
use Rattle.stream.specs.declared.Done.{Done}
use Rattle.stream.specs.Call.{Call, stopped, went, within}
use Rattle.stream.specs.Run.{Ran, run}

-- a call that goes on has a whole packet among the words s
abbrev pub Inside : {T : Type 0} → List ℕ → Call T → Type 0
Inside s (went a ws u) = (length (packet s) ≡ size (first s)) × (size (first s) ≤ length s)
Inside s (stopped a) = Unit {0}

pub record OwnPacket {T : Type 0} (step : T → List ℕ → Call T) : Type 0 where
  pub alone : (t : T) (w : ℕ) (s : List ℕ) → step t (take (size w) (w ∷ s)) ≡ step t (w ∷ s)
  pub whole : (t : T) (w : ℕ) (s : List ℕ) → Inside (w ∷ s) (step t (w ∷ s))

-- the call at the packet that is next, after what was reported so far, with the room that an output of so many has left
abbrev pub next_call : {T : Type 0} → (T → List ℕ → Call T) → List ℕ → Done → ℕ → T → Call (ℕ × T)
next_call step ws d long t = within step (long - d.written, t) (drop d.read ws)

-- and the run of all packets, in an output of so many
abbrev pub whole_run : {T : Type 0} → (T → List ℕ → Call T) → List ℕ → ℕ → T → Ran (ℕ × T)
whole_run step ws long t = run (within step) (long, t) (cut ws)

-- the same call, and the same run, of a state that another one stands for
abbrev pub seen : {T U : Type 0} → (T → U) → Call T → Call U
seen f (went a ws u) = went a ws (f u)
seen f (stopped a) = stopped a

abbrev pub ran_seen : {T U : Type 0} → (T → U) → Ran T → Ran U
ran_seen f r = record { answer = r.answer; read = r.read; sends = r.sends; left = f r.left }
