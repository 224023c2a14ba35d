-- `table::go_through` meets its contract: what was done, and then the call or the run from here, is all that was asked
-- for. Assumes nothing.
use Rattle.std.proofs.Common.{length, ◌≡◌}
use Rattle.table.proofs.Turns.{Keeps, left}
use Rattle.table.proofs.go_through.Given as goal

abbrev pub invariant-loop-p : goal.invariant-loop-p
invariant-loop-p l =
    Keeps l.words l.job l.initial.table l.initial.out l.p l.table l.out × (length l.table ≡ length l.initial.table)

abbrev pub decreases-loop-p : goal.decreases-loop-p
decreases-loop-p l = left l.words l.job l.initial.table l.initial.out l.p
