-- `keys::lowests` meets its contract. Assumes nothing.
use Rattle.keys.proofs.Laws.{lowests}
use Rattle.keys.proofs.lowests.Statement.{statement}
use Rattle.keys.proofs.lowests.Tie as tie

pub lowests_spec : {M : Type 1} → statement M
lowests_spec = tie.close (tie.spec (λ c. lowests))
