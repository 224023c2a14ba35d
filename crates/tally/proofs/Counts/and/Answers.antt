-- `tally::Counts::and` adds one sort at a time.
use Rattle.std.proofs.Common.{arith}
use Rattle.tally.proofs.BothLaws.{both-more, both_start}
use Rattle.tally.proofs.Counts.and.Goals as goal

pub loop-sort-init : goal.loop-sort-init
loop-sort-init c = both_start _ _ (omega (arith, c.well_formed))

pub loop-sort-preserved : goal.loop-sort-preserved
loop-sort-preserved c = let l = c.loop-sort in both-more _ _ l.times l.sort l.invariant (omega arith)

pub returns : goal.returns
returns c = λ sort h. c.loop-sort.invariant.done sort (omega (arith, h, c.loop-sort.invariant.long))
