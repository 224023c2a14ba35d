-- `inlet::import_first`: 3 where no byte is left, and else what the byte comes to, with its words stored if they fit.
use Prim.Native.Nat.{◌<◌}
use native.Mathlib.Omega.{arith}
use mathlib.Core.Path.{refl, ◌∙◌}
use lib.ListN.{length}
use Rattle.stream.specs.Answers.{cut_packet}
use Rattle.cable.specs.Hearing.{told}
use Rattle.inlet.proofs.CallLaws.{none_left, quiet-fits}
use Rattle.inlet.proofs.RunLaws.{roomy-one, tight-one}
use Rattle.inlet.proofs.import_first.Goals as goal

pub returns-then-bytes-eq0 : goal.returns-then-bytes-eq0
returns-then-bytes-eq0 c =
    let a = c.args in
    rw (none_left a.cable a.group a.bytes.now c.if-bytes-eq0.true, quiet-fits (length a.out.now) cut_packet a.cable)
    (record { report = c.refused.ensures; output = refl })

pub returns-in-Some : goal.returns-in-Some
returns-in-Some c =
    let a = c.args in
    let some : 0 < length a.bytes.now = omega (arith, c.if-bytes-eq0.false) in
    let stored = roomy-one a.group a.cable a.bytes.now a.out.now some (told c.hear-heard.result) c.hear-heard.ensures
    c.put.new.out c.in-Some.written (rw c.in-Some.is at c.put.ensures) in
    record { report = stored.0; output = stored.1 }

pub returns-in-None : goal.returns-in-None
returns-in-None c =
    let a = c.args in
    let some : 0 < length a.bytes.now = omega (arith, c.if-bytes-eq0.false) in
    let stored = tight-one a.group a.cable a.bytes.now a.out.now some (told c.hear-heard.result) c.hear-heard.ensures
    c.put.new.out (rw c.in-None.is at c.put.ensures) in
    record { report = c.refused-in-None.ensures ∙ stored.0; output = stored.1 }
