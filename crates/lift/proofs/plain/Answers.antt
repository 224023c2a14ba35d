-- `lift::plain` meets its contract: by one row of calls. Assumes nothing.
use Rattle.message.specs.Message.{first2, second2}
use Rattle.ump.proofs.FieldLaws.{seven-bits2}
use Rattle.lift.proofs.plain.Goals as goal

pub returns : goal.returns
unfolding first2 second2
returns c = simp (seven-bits2, c.sent_up.ensures, c.seven_bits.ensures, c.data2.ensures, c.data1.ensures)
