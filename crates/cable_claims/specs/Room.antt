-- How long an output has to be (RULES 12.3): two words for each byte, and two more where an exclusive may be open.
use Rattle.std.specs.Prelude.{ℕ, ◌+◌, ◌*◌, ◌≤◌, ◌≡◌, List, length}
use Rattle.stream.specs.Answers.{no_room}
use Rattle.cable.specs.declared.Cable.{Cable}
use Rattle.inlet.specs.Inlet.{run_in}

pub record Room : Type 0 where
  pub into : (g room : ℕ) (s : Cable) (bs : List ℕ) → 2 * length bs + 2 ≤ room → (run_in g room s bs).answer ≡ no_room
      → ⊥
  pub fresh : (g room : ℕ) (s : Cable) (bs : List ℕ) → s.status ≡ 0 → 2 * length bs ≤ room
      → (run_in g room s bs).answer ≡ no_room → ⊥
