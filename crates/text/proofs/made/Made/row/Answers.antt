-- `text::made::Made::row`: the row stands behind what stood there.
use Rattle.std.proofs.Common.{arith}
use Rattle.text.proofs.RowLaws.{made_longer}
use Rattle.text.proofs.made.Made.row.Goals as goal

pub returns-clause-text : goal.returns-clause-text
returns-clause-text g c =
    let m = c.self.inside in
    rw c.put_row.ensures
    (made_longer m.bytes c.args.bytes.now c.args.self.now m.len c.self.view_is c.self.invariant
    (omega (arith, c.self.told)))
