-- `outlet::packets::export`: the group is asked for first.
use mathlib.Core.Path.{refl}
use borrow.Author.Tests.{le-ltb, lt-ltb}
use Rattle.ground.proofs.StoreLaws.{start-written}
use Rattle.outlet.specs.Outlet.{one_out}
use Rattle.outlet.proofs.packets.export.Goals as goal

pub returns-then-group-gt15 : goal.returns-then-group-gt15
unfolding one_out
returns-then-group-gt15 c = rw (lt-ltb 15 _ c.if-group-gt15.true) record {
  report = c.report.ensures;
  output = refl;
}

pub returns-else-group-gt15 : goal.returns-else-group-gt15
unfolding one_out
returns-else-group-gt15 c =
    rw (le-ltb 15 _ c.if-group-gt15.false)
    (simp start-written at c.export_first.ensures)
