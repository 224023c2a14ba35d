-- `question::keys_told`: the table is asked for first, then the group and the channel.
use Rattle.ground.proofs.Tests.{tests}
use Rattle.question.specs.Question.{keys_told}
use Rattle.question.proofs.keys_told.Goals as goal

pub returns-then-n-ne-RECORDS : goal.returns-then-n-ne-RECORDS
unfolding keys_told
returns-then-n-ne-RECORDS c = simp (c.showing_none.ensures, tests, c.if-n-ne-RECORDS.true)

pub returns-then-is_in_range : goal.returns-then-is_in_range
unfolding keys_told
returns-then-is_in_range c =
    simp (c.keys_shown.ensures, c.if-n-ne-RECORDS.false, ← c.is_in_range.ensures, c.if-is_in_range.true)

pub returns-else-is_in_range : goal.returns-else-is_in_range
unfolding keys_told
returns-else-is_in_range c =
    simp
    (c.showing_none-else-is_in_range.ensures, c.if-n-ne-RECORDS.false, ← c.is_in_range.ensures, c.if-is_in_range.false)
