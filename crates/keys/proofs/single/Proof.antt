-- `keys::single` meets its contract. Assumes nothing.
use Rattle.keys.proofs.Laws.{single}
use Rattle.keys.proofs.single.Statement.{statement}
use Rattle.keys.proofs.single.Tie as tie

pub single_spec : {M : Type 1} → statement M
single_spec = tie.close (tie.spec (λ c. single))
