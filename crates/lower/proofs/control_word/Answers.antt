-- `lower::control_word` meets its contract: a control change is written with status 11. Assumes nothing.
use Rattle.message.specs.Message.{write1}
use Rattle.lower.proofs.control_word.Goals as goal

pub returns : goal.returns
unfolding write1
returns c = simp c.voice_word.ensures
