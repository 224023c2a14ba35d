-- `quernbrae::quernbrae_host_up` meets its contract: it hands all on to `treat`, and what that says is the contract.
-- Assumes nothing.
use Rattle.hosts.specs.Hosts.{host_one_up}
use Rattle.table.specs.Job.{asked, table_step}
use Rattle.quernbrae.proofs.quernbrae_host_up.Goals as goal

pub returns : goal.returns
unfolding asked table_step host_one_up
returns c =
    let t = rw c.job.ensures at c.treat.ensures in
    record { report = t.report; table = t.table; output = t.output }
