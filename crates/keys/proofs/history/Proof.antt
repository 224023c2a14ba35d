-- `keys::history` meets its contract. Assumes nothing.
use Rattle.keys.proofs.HistoryLaws.{history}
use Rattle.keys.proofs.history.Statement.{statement}
use Rattle.keys.proofs.history.Tie as tie

pub history_spec : {M : Type 1} → statement M
history_spec = tie.close (tie.spec (λ c. history))
