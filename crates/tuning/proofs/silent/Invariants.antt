-- `tuning::silent`: the loop's invariant is that the keys below are silent, and those from here on as they were.
use Rattle.std.proofs.Common.{◌≡◌, ◌++◌, take, drop, map}
use Rattle.tuning.specs.Desk.{silent_key}
use Rattle.tuning.proofs.silent.Given as goal

abbrev pub invariant-loop-key : goal.invariant-loop-key
invariant-loop-key l =
    l.key-items ≡ map silent_key (take l.key-index l.initial.key-items) ++ drop l.key-index l.initial.key-items
