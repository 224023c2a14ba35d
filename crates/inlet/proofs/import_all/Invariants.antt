-- `inlet::import_all`: what was done, and then the run from here, is the whole run. Twice the bytes left, and one more
-- where something is open, is less after each call.
use Prim.Native.Nat.{◌+◌, ◌-◌, ◌*◌}
use lib.ListN.{length}
use Rattle.cable.specs.Receiver.{cable_of}
use Rattle.inlet.proofs.RunLaws.{Runs, opened}
use Rattle.inlet.proofs.import_all.Given as goal

abbrev pub invariant-loop-read : goal.invariant-loop-read
invariant-loop-read l = Runs l.group l.fn.cable l.bytes l.initial.out (cable_of l.state) l.out l.read l.written

abbrev pub decreases-loop-read : goal.decreases-loop-read
decreases-loop-read l = 2 * (length l.bytes - l.read) + opened (cable_of l.state)
