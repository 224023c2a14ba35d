-- `quernbrae::quernbrae_run_up` meets its contract: it hands all on to `treat`, and the run that this is told is the
-- run up. Assumes nothing.
use Rattle.std.proofs.Common.{◌∙◌}
use Rattle.quernbrae.proofs.Said.{run-said}
use Rattle.quernbrae.proofs.quernbrae_run_up.Goals as goal

pub returns : goal.returns
returns c =
    let a = c.args in
    let z = run-said a.words.now a.table.now a.out.now in
    let t = rw c.run_told.ensures at c.treat.ensures in
    record { report = t.report ∙ z.0; table = t.table ∙ z.1; output = t.output ∙ z.2 }
