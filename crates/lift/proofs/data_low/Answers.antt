-- `lift::data_low` meets its contract: it sends exactly where data high is present. Assumes nothing.
use Rattle.lift.specs.Lift.{data_low}
use Rattle.lift.proofs.data_low.Goals as goal

pub returns-then-data_high_present : goal.returns-then-data_high_present
unfolding data_low
returns-then-data_high_present c =
    simp (c.entered.ensures, c.data2.ensures, c.if-data_high_present.true, ← c.data_high_present.ensures)

pub returns-else-data_high_present : goal.returns-else-data_high_present
unfolding data_low
returns-else-data_high_present c =
    simp (c.taken_in.ensures, c.if-data_high_present.false, ← c.data_high_present.ensures)
