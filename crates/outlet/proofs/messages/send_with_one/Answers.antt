-- `outlet::messages::send_with_one` meets its contract: the data byte is asked first. Assumes nothing.
use Rattle.ground.proofs.Tests.{tests}
use Rattle.cable.specs.State.{pick}
use Rattle.outlet.specs.Sending.{with_one}
use Rattle.outlet.proofs.RowLaws.{nothing}
use Rattle.outlet.proofs.messages.send_with_one.Goals as goal

pub returns-then-a-le-MOST : goal.returns-then-a-le-MOST
unfolding with_one pick
returns-then-a-le-MOST c =
    let b = c.byte3-a.ensures in
    simp (tests, ← b, c.if-a-le-MOST.true, ← c.byte2.ensures) c.send.ensures

pub returns-else-a-le-MOST : goal.returns-else-a-le-MOST
unfolding with_one pick
returns-else-a-le-MOST c =
    nothing _ _ _ (simp (tests, ← c.byte3-a.ensures, c.if-a-le-MOST.false)) c.requires
