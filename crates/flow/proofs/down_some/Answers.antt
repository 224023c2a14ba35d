-- `flow::down_some` meets its contract: the run says the report and the output, and reads no more words than there are,
-- so that those it has read are a part of them, which is counted. Assumes nothing.
use mathlib.Core.Path.{sym}
use lib.Seq.{length-take-le}
use Rattle.flow.proofs.BoundLaws.{down-reads}
use Rattle.flow.proofs.down_some.Goals as goal

pub slice_bounds-tally_of-end : goal.slice_bounds-tally_of-end
slice_bounds-tally_of-end c =
    let ws = c.args.words.now in
    let r = c.run_down-ran in
    let e = rw c.open_rule.ensures at r.ensures.report in
    sym (length-take-le r.result.read ws (down-reads _ ws r.result e))
