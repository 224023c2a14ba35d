-- Real time bytes anywhere leave all else as it was (RULES 12.5; 01 "Layouts and rules for later parts", cable bytes).
use Rattle.std.specs.Prelude.{ℕ, ◌≡◌, List, [], ◌∷◌, leb}
use Rattle.cable.specs.declared.Cable.{Cable}
use Rattle.cable.specs.State.{pick}
use Rattle.inlet.specs.Inlet.{Made, calls_in}
use Rattle.cable_claims.specs.Words.{whole_in}

-- bytes, and calls, without those of real time
unfoldable pub others : List ℕ → List ℕ
others [] = []
others (b ∷ bs) = pick (leb 0xF8 b) (others bs) (b ∷ others bs)

unfoldable pub apart : List Made → List Made
apart [] = []
apart (m ∷ ms) = pick (leb 0xF8 m.byte) (apart ms) (m ∷ apart ms)

-- From any state: where they are taken out, every other call is made in the same state, answers and sends the same, and
-- the state left is the same.
pub record RealTimeApart : Type 0 where
  pub calls : (g : ℕ) (s : Cable) (bs : List ℕ) → calls_in g s (others bs) ≡ apart (calls_in g s bs)
  pub state : (g : ℕ) (s : Cable) (bs : List ℕ) → (whole_in g s (others bs)).left ≡ (whole_in g s bs).left
