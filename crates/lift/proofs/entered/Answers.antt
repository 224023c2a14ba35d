-- `lift::entered` meets its contract: the kind picks the status. Assumes nothing.
use Rattle.lift.specs.Lift.{addressed2}
use Rattle.ground.proofs.Tests.{tests}
use Rattle.message.specs.Message.{first2, second2}
use Rattle.lift.proofs.entered.Goals as goal

pub returns-then-memory-eq-REGISTERED : goal.returns-then-memory-eq-REGISTERED
unfolding addressed2 first2 second2
returns-then-memory-eq-REGISTERED c = simp (c.sent_up.ensures, c.if-memory-eq-REGISTERED.true, c.fourteen-value.ensures)

pub returns-else-memory-eq-REGISTERED : goal.returns-else-memory-eq-REGISTERED
unfolding addressed2 first2 second2
returns-else-memory-eq-REGISTERED c =
    simp (tests, c.sent_up-else-memory-eq-REGISTERED.ensures, c.if-memory-eq-REGISTERED.false, c.fourteen-value.ensures)
