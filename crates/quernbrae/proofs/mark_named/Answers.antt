-- `quernbrae::mark_named` meets its contract: the record that is named is read, and it alone is stored again where it is
-- sound. Assumes nothing.
use Rattle.std.proofs.Common.{sym, ◌∙◌}
use Rattle.std.proofs.lemmas.List.{set-get_or}
use Rattle.quernbrae.proofs.Marks.{marked-named}
use Rattle.quernbrae.proofs.mark_named.Goals as goal

pub returns-in-Some : goal.returns-in-Some
returns-in-Some c =
    let a = c.args in
    let m = rw c.in-Some.is at c.marking.ensures in
    let z = marked-named a.table.now a.group a.channel a.coarse c.requires c.place_asked-i.result c.place_asked-i.ensures
    _ _ c.in-Some.after (m.answer, m.after) in
    record { told = z.0; table = z.1 }

pub returns-in-None : goal.returns-in-None
returns-in-None c =
    let a = c.args in
    let m = rw c.in-None.is at c.marking.ensures in
    let i = c.place_asked-i.result in
    let z = marked-named a.table.now a.group a.channel a.coarse c.requires i c.place_asked-i.ensures _ _ _
    (m.answer, m.after) in
    record { told = z.0; table = sym (set-get_or a.table.now i _) ∙ z.1 }
