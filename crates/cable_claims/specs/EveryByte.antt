-- A run in is its calls (RULES 12.3): each is the single call in the state that the one before it left, and every byte
-- is read by one of them, by the second where the first did not read it.
use Rattle.std.specs.Prelude.{ℕ, ◌≤◌, ◌≡◌, true, List, [], ◌∷◌, length}
use Rattle.ground.specs.Lists.{All}
use Rattle.stream.specs.Answers.{sent}
use Rattle.cable.specs.declared.Cable.{Cable}
use Rattle.cable.specs.State.{sound}
use Rattle.inlet.specs.Inlet.{Made, call_in, calls_in, run_in}
use Rattle.cable_claims.specs.Words.{whole_in}

-- a good group and a sound state
pub record EveryByte : Type 0 where
  pub single : (g : ℕ) (s : Cable) (bs : List ℕ) → g ≤ 15 → sound s ≡ true
      → All (λ (m : Made). call_in m.before g (m.byte ∷ []) ≡ m.call) (calls_in g s bs)
  pub next : (g : ℕ) (s : Cable) (b : ℕ) → g ≤ 15 → sound s ≡ true → (call_in s g (b ∷ [])).read ≡ 0
      → (call_in (call_in s g (b ∷ [])).after g (b ∷ [])).read ≡ 1
  -- with room for all that is sent the run comes to its end
  pub ends : (g room : ℕ) (s : Cable) (bs : List ℕ) → g ≤ 15 → sound s ≡ true → length (whole_in g s bs).sends ≤ room
      → (run_in g room s bs ≡ whole_in g s bs) × ((run_in g room s bs).answer ≡ sent)
      × ((run_in g room s bs).read ≡ length bs)
