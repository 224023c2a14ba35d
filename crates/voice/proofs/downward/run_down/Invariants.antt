-- `voice::downward::run_down` meets its contract: the loop's invariant is that what was done, and then the
-- run from here, is the whole run. The measure is the words left. Assumes nothing.
use Prim.Native.Nat.{◌-◌}
use lib.ListN.{length}
use Rattle.voice.proofs.DownLoop.{Downs}
use Rattle.voice.proofs.downward.run_down.Given as goal

abbrev pub invariant-loop-read : goal.invariant-loop-read
invariant-loop-read l = Downs l.rule l.words l.initial.out l.out l.read l.written

abbrev pub decreases-loop-read : goal.decreases-loop-read
decreases-loop-read l = length l.words - l.read
