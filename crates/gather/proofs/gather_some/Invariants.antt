-- The loop of `gather::gather_some`: what was done, and then the run from here, is the whole run. The measure is the
-- words left.
use Rattle.std.proofs.Common.{◌-◌, length}
use Rattle.gather.specs.Gather.{held_in}
use Rattle.gather.proofs.GatherLoop.{Gathers}
use Rattle.gather.proofs.gather_some.Given as goal

abbrev pub invariant-loop-read : goal.invariant-loop-read
invariant-loop-read l =
    Gathers (held_in l.initial.collector l.initial.buffer) l.words l.initial.text (held_in l.collector l.buffer) l.text
    l.read l.written

abbrev pub decreases-loop-read : goal.decreases-loop-read
decreases-loop-read l = length l.words - l.read
