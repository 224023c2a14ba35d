-- `handover::empty_from` meets its contract: the records from the first place to the one that is next are empty.
use Rattle.std.proofs.Common.{◌≡◌, ◌-◌}
use Rattle.handover.specs.Handover.{emptied}
use Rattle.handover.proofs.empty_from.Given as goal

abbrev pub invariant-loop-i : goal.invariant-loop-i
invariant-loop-i l = l.table ≡ emptied l.initial.table l.from (l.i - l.from)
