-- Words for what is claimed of runs, over any step and any state.
use Rattle.std.specs.Prelude.{ℕ, ◌+◌, ◌-◌, cond, List, [], ◌∷◌, ◌++◌, length, eqb}
use Rattle.stream.specs.Answers.{sent}
use Rattle.stream.specs.Call.{Call, stopped, went}
use Rattle.stream.specs.Run.{Ran}

-- A call of a run, and the packet that it was made at.
pub record Made (T : Type 0) : Type 0 where
  pub packet : List ℕ
  pub call : Call T

abbrev pub then_calls : {T : Type 0} → Call T → (T → List (Made T)) → List (Made T)
then_calls (went a ws u) rest = rest u
then_calls (stopped a) rest = []

-- the calls of a run, in order, each in the state left by the packets before, up to the one that stops it
unfoldable pub calls : {T : Type 0} → (T → List ℕ → Call T) → T → List (List ℕ) → List (Made T)
calls step t [] = []
calls step t (p ∷ ps) = record { packet = p; call = step t p } ∷ then_calls (step t p) (λ u. calls step u ps)

-- one run and then another from the state that it left, if it came to its end
abbrev pub and_then : {T : Type 0} → Ran T → (T → Ran T) → Ran T
and_then r rest =
    let q = rest r.left in
    cond (eqb r.answer sent)
    (record { answer = q.answer; read = r.read + q.read; sends = r.sends ++ q.sends; left = q.left })
    r

-- a run with unlimited room, seen as one in an output of so many words
abbrev pub roomed : {T : Type 0} → ℕ → Ran T → Ran (ℕ × T)
roomed room r =
    record { answer = r.answer; read = r.read; sends = r.sends; left = (room - length r.sends, r.left) }
