-- `flow::up_some` meets its contract: the run says the report, the table and the output, and reads no more words than
-- there are, so that those it has read are a part of them, which is counted. Assumes nothing.
use mathlib.Core.Path.{sym}
use lib.ListN.{length}
use lib.Seq.{length-take-le}
use Rattle.table.specs.Job.{asked, table_step}
use Rattle.table.specs.Table.{run_up}
use Rattle.flow.proofs.BoundLaws.{up-reads}
use Rattle.flow.proofs.up_some.Goals as goal

pub slice_bounds-tally_of-end : goal.slice_bounds-tally_of-end
unfolding asked table_step run_up
slice_bounds-tally_of-end c =
    let r = c.run_from-run in
    let e = rw (c.run.ensures, c.open_rule.ensures) at r.ensures.report in
    let a = c.args in
    let ws = a.words.now in
    sym (length-take-le r.result.done.read ws (up-reads (length a.out.now) a.table.records ws r.result.done e))

pub returns : goal.returns
unfolding asked table_step run_up
returns c =
    let r = c.run_from-run.ensures in
    record {
      report = rw (c.run.ensures, c.open_rule.ensures) at r.report;
      table = rw (c.run.ensures, c.open_rule.ensures) at r.table;
      counts = c.tally_of-counts.ensures;
      output = rw (c.run.ensures, c.open_rule.ensures) at r.output;
    }
