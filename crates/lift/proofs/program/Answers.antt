-- `lift::program` meets its contract: the bank goes with it exactly where both halves are present. Assumes nothing.
use Rattle.ground.proofs.Tests.{tests}
use Rattle.lift.specs.Lift.{banked2, effect_of, lift}
use Rattle.message.specs.Message.{first2, second2}
use Rattle.lift.proofs.program.Goals as goal

pub returns-then-high-low : goal.returns-then-high-low
unfolding banked2 effect_of first2 lift second2
returns-then-high-low c =
    simp (tests, c.sent_up.ensures, c.if-high-low.true, c.data1.ensures, c.with_bank_spent-after.ensures)

pub returns-else-high-low : goal.returns-else-high-low
unfolding banked2 effect_of first2 lift second2
returns-else-high-low c =
    simp (tests, c.sent_up-else-high-low.ensures, c.if-high-low.false, c.data1.ensures, c.with_bank_spent-after.ensures)
