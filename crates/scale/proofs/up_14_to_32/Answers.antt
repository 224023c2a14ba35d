-- `scale::up_14_to_32` meets its contract: its row is the law's, one copy of thirteen bits and five of another. Assumes nothing.
use mathlib.Core.Bool.{cond}
use mathlib.Core.Path.{◌≡◌, refl}
use native.Mathlib.Omega.{arith}
use Prim.Native.Nat.{ℕ, ◌+◌, ◌*◌, ◌/◌, ◌%◌, ◌^◌, ◌<◌}
use lib.Dec.{leb}
use Rattle.scale.specs.Scale.{up}
use Rattle.scale.proofs.Laws.{places, row, up-row}
use Rattle.scale.proofs.up_14_to_32.Goals as goal

is_row : (x r : ℕ) → let v = x % 2 ^ 14 in r ≡ cond (leb v 8192) 0 (v % 8192)
    → let sum = v * 2 ^ 18 + (r * 2 ^ 5 + r / 2 ^ 8) in (sum ≡ up 14 32 v) × (sum < 2 ^ 32)
unfolding row places
is_row x r e = up-row 14 32 1 5 (x % 2 ^ 14) r (omega arith) (omega arith) (omega arith) (omega arith) refl e

pub returns : goal.returns
returns c = let t = is_row c.args.x _ c.repeated-r.ensures in omega (arith, t.0, t.1)
