-- `tally::tally_of` meets its contract, by the laws of one more sort that is counted.
use Rattle.std.proofs.Common.{get_or, arith}
use Rattle.ump.proofs.PacketLaws.{size-range}
use Rattle.tally.proofs.TallyLaws.{counts_end, counts-more, counts_start}
use Rattle.tally.proofs.tally_of.Goals as goal

pub loop-at-init : goal.loop-at-init
loop-at-init g c = counts_start _ _ _ c.none-counts.ensures

pub overflow_add-at : goal.overflow_add-at
overflow_add-at g c =
    omega (
      arith,
      c.loop-at-test.true,
      c.size-at.ensures,
      size-range (get_or c.args.words.now c.loop-at.at 0),
    )

pub loop-at-smaller : goal.loop-at-smaller
loop-at-smaller g c =
    omega (
      arith,
      c.size-at.ensures,
      size-range (get_or c.args.words.now c.loop-at.at 0),
      c.loop-at-test.true,
    )

pub loop-at-preserved : goal.loop-at-preserved
loop-at-preserved g c =
    let a = c.args in
    let l = c.loop-at in
    rw (c.size-at.ensures, c.add.ensures)
    (counts-more (g.W.Way.sort a.way) a.words.now l.counts.times l.at l.invariant c.loop-at-test.true (omega arith)
    (g.met.W.Way.near a.way) _ c.sort_at.ensures)

pub returns : goal.returns
returns g c = let l = c.loop-at in counts_end _ _ l.counts.times l.at l.invariant c.loop-at-test.false
