-- `lower::keyed_value` meets its contract: status by status. Assumes nothing.
use Rattle.lower.specs.Keyed.{keyed_value}
use Rattle.ground.proofs.Tests.{tests}
use Rattle.lower.proofs.keyed_value.Goals as goal

pub returns-then-status-eq8 : goal.returns-then-status-eq8
unfolding keyed_value
returns-then-status-eq8 c = simp (tests, c.velocity_down.ensures, c.if-status-eq8.true)

pub returns-then-status-eq9 : goal.returns-then-status-eq9
unfolding keyed_value
returns-then-status-eq9 c = simp (
  tests,
  c.sounding_velocity.ensures,
  c.velocity_down-then-status-eq9.ensures,
  c.if-status-eq9.true,
  c.if-status-eq8.false,
)

pub returns-else-status-eq9 : goal.returns-else-status-eq9
unfolding keyed_value
returns-else-status-eq9 c = simp (tests, c.value_down.ensures, c.if-status-eq9.false, c.if-status-eq8.false)
