-- `text::places` meets its contract. The loop's invariant: the places counted and those of what is left are the
-- number's, and one more. The measure is what is left. Assumes nothing.
use Prim.Native.Nat.{◌+◌, ◌≤◌}
use mathlib.Core.Path.{◌≡◌}
use Rattle.text.specs.Lines.{places}
use Rattle.text.proofs.places.Given as goal

abbrev pub invariant-loop-rest : goal.invariant-loop-rest
invariant-loop-rest l = (places l.n + 1 ≡ l.k + places l.rest) × (places l.n ≤ 20)

abbrev pub decreases-loop-rest : goal.decreases-loop-rest
decreases-loop-rest l = l.rest
