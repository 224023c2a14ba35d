-- `lower::bend_down` meets its contract: the low half goes first. Assumes nothing.
use Rattle.message.specs.Message.{write1}
use Rattle.lower.proofs.bend_down.Goals as goal

pub returns : goal.returns
unfolding write1
returns c = simp (c.one_word.ensures, c.down_32_to_14-value.ensures)
