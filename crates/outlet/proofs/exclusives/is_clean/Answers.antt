-- `outlet::exclusives::is_clean` meets its contract: the count, the status and the bytes of the count. Assumes nothing.
use mathlib.Core.Path.{sym}
use Rattle.outlet.proofs.ExclusiveLaws.{clean-few, clean-many}
use Rattle.outlet.proofs.exclusives.is_clean.Goals as goal

pub returns-then-n-le-SIX : goal.returns-then-n-le-SIX
returns-then-n-le-SIX c =
    let a = c.args in
    let n = c.count-n.ensures in
    rw (c.status.ensures, c.is_data.ensures, n)
    (sym (clean-few a.w a.v c.requires (rw n at c.if-n-le-SIX.true)))

pub returns-else-n-le-SIX : goal.returns-else-n-le-SIX
returns-else-n-le-SIX c =
    let a = c.args in
    sym (clean-many a.w a.v c.requires (rw c.count-n.ensures at c.if-n-le-SIX.false))
