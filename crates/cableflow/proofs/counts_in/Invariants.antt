-- `cableflow::counts_in`. The loop's invariant: the answers before a place are counted, and those from there on are
-- left. Twice the bytes left, and one more where something is open, is less after each call. Assumes nothing.
use Prim.Native.Nat.{◌+◌, ◌-◌, ◌*◌}
use lib.ListN.{length}
use Rattle.inlet.proofs.RunLaws.{opened}
use Rattle.cableflow.proofs.CountLaws.{Counts}
use Rattle.cableflow.proofs.counts_in.Given as goal

abbrev pub invariant-loop-at : goal.invariant-loop-at
invariant-loop-at l = Counts l.group l.initial.state l.bytes l.room l.counts.times l.state l.at l.left

abbrev pub decreases-loop-at : goal.decreases-loop-at
decreases-loop-at l = 2 * (length l.bytes - l.at) + opened l.state
