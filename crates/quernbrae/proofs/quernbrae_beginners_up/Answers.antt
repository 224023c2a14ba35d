-- `quernbrae::quernbrae_beginners_up` meets its contract: it hands all on to `treat`, and what that says is the contract.
-- Assumes nothing.
use Rattle.table.specs.Table.{beginners_one_up}
use Rattle.table.specs.Job.{asked, table_step}
use Rattle.quernbrae.proofs.quernbrae_beginners_up.Goals as goal

pub returns : goal.returns
unfolding asked table_step beginners_one_up
returns c =
    let t = rw (c.call.ensures, c.beginners_rule.ensures) at c.treat.ensures in
    record { report = t.report; table = t.table; output = t.output }
