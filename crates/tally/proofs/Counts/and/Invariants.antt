-- The loop of `tally::Counts::and`: the sorts before a place are those of both, and those from there on are the first's.
use Rattle.tally.proofs.BothLaws.{Both}
use Rattle.tally.proofs.Counts.and.Given as goal

abbrev pub invariant-loop-sort : goal.invariant-loop-sort
invariant-loop-sort l = Both l.initial.times l.more.times l.times l.sort
