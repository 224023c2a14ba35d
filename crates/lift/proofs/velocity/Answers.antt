-- `lift::velocity` meets its contract: a velocity scaled up fits sixteen bits, so that its place has room. Assumes
-- nothing.
use Prim.Native.Nat.{◌%◌, ◌^◌}
use native.Mathlib.Omega.{arith}
use Rattle.scale.proofs.Laws.{up_lt}
use Rattle.lift.proofs.velocity.Goals as goal

pub overflow_mul-result : goal.overflow_mul-result
overflow_mul-result c = let n = c.data2.result % 2 ^ 7 in
    record { fits = omega (arith, c.up_7_to_16.ensures, up_lt 7 16 n (omega arith) (omega arith)) }
