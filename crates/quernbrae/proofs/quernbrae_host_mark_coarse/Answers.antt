-- `quernbrae::quernbrae_host_mark_coarse` meets its contract: a record that the host may mark is one that is named, and
-- no other is read. Assumes nothing.
use Rattle.std.proofs.Common.{◌∙◌, sym}
use Rattle.ground.proofs.Bools.{and_left}
use Rattle.quernbrae.proofs.Marks.{host-marked, host-unmarked}
use Rattle.quernbrae.proofs.quernbrae_host_mark_coarse.Goals as goal

pub mark_named-requires : goal.mark_named-requires
mark_named-requires c = and_left _ _ (sym c.may_mark.ensures ∙ c.if-may_mark.true)

pub returns-then-may_mark : goal.returns-then-may_mark
returns-then-may_mark c =
    let a = c.args in
    let m = c.mark_named.ensures in
    let z = host-marked a.table.now a.group a.channel a.coarse a.host a.owners.now
    (sym c.may_mark.ensures ∙ c.if-may_mark.true) in
    record { answer = m.told ∙ z.0; table = m.table ∙ z.1 }

pub returns-else-may_mark : goal.returns-else-may_mark
returns-else-may_mark c =
    let a = c.args in
    let z = host-unmarked a.table.now a.group a.channel a.coarse a.host a.owners.now
    (sym c.may_mark.ensures ∙ c.if-may_mark.false) in
    record { answer = c.unmarked.ensures ∙ z.0; table = z.1 }
