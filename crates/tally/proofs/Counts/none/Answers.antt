-- `tally::Counts::none`: among no calls no sort comes.
use Rattle.tally.proofs.TallyLaws.{tally-none}
use Rattle.tally.proofs.Counts.none.Goals as goal

pub returns : goal.returns
returns c = tally-none
