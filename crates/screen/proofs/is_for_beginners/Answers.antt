-- `screen::is_for_beginners` meets its contract: it asks the definition's tests of the same fields. Assumes nothing.
use Rattle.screen.specs.Screen.{for_beginners}
use Rattle.screen.proofs.is_for_beginners.Goals as goal

pub returns : goal.returns
unfolding for_beginners
returns c = rw (c.is_beginners_controller-listed.ensures, c.data1.ensures, c.status-s.ensures, c.message_type-t.ensures)
