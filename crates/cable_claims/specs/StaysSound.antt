-- Every call leaves a sound cable sound (RULES 12.1; 02 M-100), whatever it answers; and so does a run.
use Rattle.std.specs.Prelude.{ℕ, ◌≡◌, true, List}
use Rattle.cable.specs.declared.Cable.{Cable}
use Rattle.cable.specs.State.{idle, sound}
use Rattle.inlet.specs.Inlet.{one_in, run_in}

pub record StaysSound : Type 0 where
  pub fresh : sound (idle 0) ≡ true
  pub calls : (g room : ℕ) (s : Cable) (bs : List ℕ) → sound s ≡ true → sound (one_in g room s bs).after ≡ true
  pub runs : (g room : ℕ) (s : Cable) (bs : List ℕ) → sound s ≡ true → sound (run_in g room s bs).left ≡ true
