-- `inlet::run_import`: refused by the group or the cable, or a run.
use mathlib.Core.Path.{refl, sym, ◌∙◌}
use lib.ListN.{length}
use Rattle.inlet.proofs.CallLaws.{run-refusal}
use Rattle.inlet.proofs.run_import.Goals as goal

pub returns-in-Some : goal.returns-in-Some
returns-in-Some c =
    let a = c.args in
    rw (run-refusal a.group (length a.out.now) a.cable a.bytes.now, sym c.refusal.ensures ∙ c.in-Some.is)
    (record { report = c.refused.ensures; output = refl })

pub returns-in-None : goal.returns-in-None
returns-in-None c =
    let a = c.args in
    rw (run-refusal a.group (length a.out.now) a.cable a.bytes.now, sym c.refusal.ensures ∙ c.in-None.is)
    c.import_all.ensures
