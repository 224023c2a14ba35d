-- `scale::up_7_to_16` meets its contract: its row is the law's, one copy of six bits and three of another. Assumes nothing.
use mathlib.Core.Bool.{cond}
use mathlib.Core.Path.{◌≡◌, refl}
use native.Mathlib.Omega.{arith}
use Prim.Native.Nat.{ℕ, ◌+◌, ◌*◌, ◌/◌, ◌%◌, ◌^◌, ◌<◌}
use lib.Dec.{leb}
use Rattle.scale.specs.Scale.{up}
use Rattle.scale.proofs.Laws.{places, row, up-row}
use Rattle.scale.proofs.up_7_to_16.Goals as goal

is_row : (x r : ℕ) → let v = x % 2 ^ 7 in r ≡ cond (leb v 64) 0 (v % 64)
    → let sum = v * 2 ^ 9 + (r * 2 ^ 3 + r / 2 ^ 3) in (sum ≡ up 7 16 v) × (sum < 2 ^ 32)
unfolding row places
is_row x r e = up-row 7 16 1 3 (x % 2 ^ 7) r (omega arith) (omega arith) (omega arith) (omega arith) refl e

pub returns : goal.returns
returns c = let t = is_row c.args.x _ c.repeated-r.ensures in omega (arith, t.0, t.1)
