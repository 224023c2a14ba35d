-- `outlet::messages::send_with_two` meets its contract: the data bytes are asked first. Assumes nothing.
use Rattle.cable.specs.State.{pick}
use Rattle.outlet.specs.Sending.{with_two}
use Rattle.outlet.proofs.RowLaws.{nothing}
use Rattle.outlet.proofs.messages.send_with_two.Goals as goal

pub returns-then-a-b : goal.returns-then-a-b
unfolding with_two pick
returns-then-a-b c =
    let a = c.byte3-a.ensures in
    let b = c.byte4-b.ensures in
    simp (← a, ← b, c.if-a-b.true, ← c.byte2.ensures) c.send.ensures

pub returns-else-a-b : goal.returns-else-a-b
unfolding with_two pick
returns-else-a-b c =
    let a = c.byte3-a.ensures in
    let b = c.byte4-b.ensures in
    nothing _ _ _ (simp (← a, ← b, c.if-a-b.false)) c.requires
