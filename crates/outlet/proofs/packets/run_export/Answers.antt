-- `outlet::packets::run_export`: the group is asked for first.
use mathlib.Core.Path.{refl}
use borrow.Author.Tests.{le-ltb, lt-ltb}
use Rattle.outlet.specs.Outlet.{run_out}
use Rattle.outlet.proofs.packets.run_export.Goals as goal

pub returns-then-group-gt15 : goal.returns-then-group-gt15
unfolding run_out
returns-then-group-gt15 c = rw (lt-ltb 15 _ c.if-group-gt15.true) record {
  report = c.report.ensures;
  output = refl;
}

pub returns-else-group-gt15 : goal.returns-else-group-gt15
unfolding run_out
returns-else-group-gt15 c = rw (le-ltb 15 _ c.if-group-gt15.false) c.export_all.ensures
