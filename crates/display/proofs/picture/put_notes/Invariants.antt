-- `display::picture::put_notes`: the loop's invariant is the row of the notes below.
use Prim.Native.Nat.{◌*◌, ◌≤◌}
use lib.ListN.{length}
use Rattle.figures.proofs.Rows.{Row}
use Rattle.display.specs.Line.{fields_below}
use Rattle.display.proofs.picture.put_notes.Given as goal

abbrev pub invariant-loop-note : goal.invariant-loop-note
invariant-loop-note l =
    (length (fields_below l.desk l.units l.note) ≤ 63 * l.note)
    × Row l.initial.row l.at (fields_below l.desk l.units l.note) l.row l.end
