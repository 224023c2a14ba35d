-- The loop of `tally::tally_of`: the sorts before a place are counted, and those from there on are left. The measure is
-- the words left.
use Rattle.std.proofs.Common.{◌-◌, length}
use Rattle.tally.proofs.TallyLaws.{Counts}
use Rattle.tally.proofs.tally_of.Given as goal

abbrev pub invariant-loop-at : goal.invariant-loop-at
invariant-loop-at g l = Counts (g.W.Way.sort l.way) l.words l.counts.times l.at

abbrev pub decreases-loop-at : goal.decreases-loop-at
decreases-loop-at g l = length l.words - l.at
