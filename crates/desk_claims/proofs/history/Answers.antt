-- `desk_claims::history` meets its contract: the claim is proved in proofs/HistoryLaws.antt.
use Rattle.desk_claims.proofs.HistoryLaws.{proved-history}
use Rattle.desk_claims.proofs.history.Goals as goal

pub returns : goal.returns
returns c = proved-history
