-- A run (RULES 4; 01 "What each call answers"): one call for each packet, until one stops it. Over any step and state.
use Rattle.std.specs.Prelude.{ℕ, ◌+◌, List, [], ◌∷◌, ◌++◌, length}
use Rattle.stream.specs.Answers.{sent}
use Rattle.stream.specs.Call.{Call, answer_of, left_of, read_of, sent_of, stopped, went}

-- What a run has done when it ends, or a call alone.
pub record Ran (T : Type 0) : Type 0 where
  pub answer : ℕ
  pub read : ℕ
  pub sends : List ℕ
  pub left : T

-- A call at the packet p in the state t, and then the rest of the run. Totals of words read and sent are handed on; a
-- call that stops has the last word.
abbrev pub then_run : {T : Type 0} → List ℕ → T → Call T → (T → Ran T) → Ran T
then_run p t (went a ws u) rest =
    record { answer = (rest u).answer; read = length p + (rest u).read; sends = ws ++ (rest u).sends; left = (rest u).left }
then_run p t (stopped a) rest = record { answer = a; read = 0; sends = []; left = t }

-- with no packet left the run has finished
unfoldable pub run : {T : Type 0} → (T → List ℕ → Call T) → T → List (List ℕ) → Ran T
run step t [] = record { answer = sent; read = 0; sends = []; left = t }
run step t (p ∷ ps) = then_run p t (step t p) (λ u. run step u ps)

-- a call at the packet p alone, told as a run is: by its own answer, whatever that is
abbrev pub called : {T : Type 0} → List ℕ → T → Call T → Ran T
called p t c = record { answer = answer_of c; read = read_of p c; sends = sent_of c; left = left_of t c }
