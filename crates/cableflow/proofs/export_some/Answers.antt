-- `cableflow::export_some` meets its contract: the run says the report and the output, and reads no more words than
-- there are, so that those it has read are a part of them, which is counted. Assumes nothing.
use mathlib.Core.Path.{sym}
use lib.Seq.{length-take-le}
use Rattle.cableflow.proofs.BoundLaws.{export-reads}
use Rattle.cableflow.proofs.export_some.Goals as goal

pub slice_bounds-tally_of-end : goal.slice_bounds-tally_of-end
slice_bounds-tally_of-end c =
    let ws = c.args.words.now in
    let r = c.run_export-ran in
    sym (length-take-le r.result.read ws (export-reads _ _ ws r.result r.ensures.report))
