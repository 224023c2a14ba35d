-- `handover::empty_from` meets its contract: each turn stores an empty record at the next place. Assumes nothing.
use Rattle.std.proofs.Common.{arith}
use Rattle.handover.proofs.Emptying.{emptied-end, emptied-next, emptied-start}
use Rattle.handover.proofs.empty_from.Goals as goal

pub loop-i-init : goal.loop-i-init
loop-i-init c = emptied-start c.args.table.now c.args.from

pub loop-i-preserved : goal.loop-i-preserved
loop-i-preserved c =
    let l = c.loop-i in
    emptied-next c.args.table.now c.args.from l.table l.i l.auto.i l.invariant _ c.empty.ensures

pub returns : goal.returns
returns c =
    let l = c.loop-i in
    emptied-end c.args.table.now c.args.from l.table l.i c.args.count
    (omega (arith, c.loop-i-test.false, l.auto.i-end, c.min.ensures, c.saturating_sub.ensures)) l.invariant
