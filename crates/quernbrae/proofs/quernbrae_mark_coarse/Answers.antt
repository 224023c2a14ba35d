-- `quernbrae::quernbrae_mark_coarse` meets its contract: where no record is named the table stays. Assumes nothing.
use Rattle.std.proofs.Common.{◌∙◌, sym}
use Rattle.quernbrae.proofs.Marks.{marked-unnamed}
use Rattle.quernbrae.proofs.quernbrae_mark_coarse.Goals as goal

pub returns-else-is_named : goal.returns-else-is_named
returns-else-is_named c =
    let a = c.args in
    let z = marked-unnamed a.table.now a.group a.channel a.coarse (sym c.is_named.ensures ∙ c.if-is_named.false) in
    record { answer = c.unnamed.ensures ∙ z.0; table = z.1 }
