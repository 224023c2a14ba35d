-- `text::made::Made::number`: the digits stand behind what stood there.
use Rattle.std.proofs.Common.{arith}
use Rattle.text.specs.Lines.{decimal, places}
use Rattle.text.proofs.RowLaws.{made_longer}
use Rattle.text.proofs.LineLaws.{digits-length}
use Rattle.text.proofs.made.Made.number.Goals as goal

pub returns-clause-text : goal.returns-clause-text
returns-clause-text g c =
    let n = c.args.n in
    let m = c.self.inside in
    let k = c.places-digits.ensures in
    let long = digits-length 10 (places n) n in
    let r = made_longer m.bytes (decimal n) c.args.self.now m.len c.self.view_is c.self.invariant
    (omega (arith, c.self.told, c.requires, k.count, k.few, long)) in
    rw (c.spell.ensures, k.count) (rw long at r)
