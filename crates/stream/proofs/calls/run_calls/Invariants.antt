-- The loop of `run_calls`: what was done, and then the run from here, is the whole run. The measure is the words left.
use Rattle.std.proofs.Common.{length, ◌-◌}
use Rattle.stream.proofs.CallsLoop.{So}
use Rattle.stream.proofs.calls.run_calls.Given as goal

abbrev pub invariant-loop-read : goal.invariant-loop-read
invariant-loop-read g l =
    let numbers = g.C.Calls.numbers in
    So g.met.C.Calls.own_packet l.words l.initial.calls (numbers l.initial.out) l.calls (numbers l.out) l.read l.written

abbrev pub decreases-loop-read : goal.decreases-loop-read
decreases-loop-read g l = length l.words - l.read
