-- `inlet::import`: refused by the group or the cable, or one call.
use mathlib.Core.Path.{refl, sym, ◌∙◌}
use lib.ListN.{length}
use Rattle.inlet.proofs.CallLaws.{one-refusal}
use Rattle.inlet.proofs.import.Goals as goal

pub returns-in-Some : goal.returns-in-Some
returns-in-Some c =
    let a = c.args in
    rw (one-refusal a.group (length a.out.now) a.cable a.bytes.now, sym c.refusal.ensures ∙ c.in-Some.is)
    (record { report = c.refused.ensures; output = refl })

pub returns-in-None : goal.returns-in-None
returns-in-None c =
    let a = c.args in
    rw (one-refusal a.group (length a.out.now) a.cable a.bytes.now, sym c.refusal.ensures ∙ c.in-None.is)
    c.import_first.ensures
