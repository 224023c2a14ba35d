-- `flow::lamps::panel` meets its contract. The loop's invariant: what was put, and then the lines of the records left,
-- is the whole panel.. Assumes nothing.
use Prim.Native.Nat.{◌≤◌}
use mathlib.Core.Path.{◌≡◌}
use lib.ListN.{drop, length}
use Rattle.channel.specs.Record.{whole_table}
use Rattle.flow.specs.Panel.{lines_from, panel_lines, rows_put}
use Rattle.flow.proofs.lamps.panel.Given as goal

abbrev pub invariant-loop-i : goal.invariant-loop-i
invariant-loop-i l =
    (l.i ≤ whole_table) × (length l.text ≡ length l.initial.text) × (length l.table.records ≡ whole_table)
    × (rows_put l.initial.text 0 (panel_lines l.table.records)
    ≡ rows_put l.text l.written (lines_from l.i (drop l.i l.table.records)))
