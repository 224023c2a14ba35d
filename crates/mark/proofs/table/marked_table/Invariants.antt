-- `mark::table::marked_table` meets its contract. The loop's invariant: the records below a place are those of the
-- definition. Assumes nothing.
use mathlib.Core.Path.{◌≡◌}
use lib.ListN.{length, take}
use Rattle.channel.specs.Record.{whole_table}
use Rattle.mark.specs.Lesson.{marked_below}
use Rattle.mark.proofs.table.marked_table.Given as goal

abbrev pub invariant-loop-place : goal.invariant-loop-place
invariant-loop-place l = (length l.records ≡ whole_table) × (take l.place l.records ≡ marked_below l.coarse l.place)
