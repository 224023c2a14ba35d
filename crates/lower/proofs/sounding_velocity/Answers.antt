-- `lower::sounding_velocity` meets its contract: test by test. Assumes nothing.
use Rattle.lower.specs.Lower.{sounding}
use Rattle.ground.proofs.Tests.{tests}
use Rattle.lower.proofs.sounding_velocity.Goals as goal

pub returns-then-v-eq0 : goal.returns-then-v-eq0
unfolding sounding
returns-then-v-eq0 c = simp (tests, c.if-v-eq0.true)

pub returns-else-v-eq0 : goal.returns-else-v-eq0
unfolding sounding
returns-else-v-eq0 c = simp (tests, c.if-v-eq0.false)
