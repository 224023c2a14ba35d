-- `quernbrae::quernbrae_up` meets its contract: it hands all on to `treat`, and what that says is the contract.
-- Assumes nothing.
use Rattle.table.specs.Table.{one_up}
use Rattle.table.specs.Job.{asked, table_step}
use Rattle.quernbrae.proofs.quernbrae_up.Goals as goal

pub returns : goal.returns
unfolding asked table_step one_up
returns c =
    let t = rw (c.call.ensures, c.open_rule.ensures) at c.treat.ensures in
    record { report = t.report; table = t.table; output = t.output }
