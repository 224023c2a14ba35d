-- `rescue_claims::kept_exactly` meets its contract: the claim is proved in proofs/KeptLaws.antt.
use Rattle.rescue_claims.proofs.KeptLaws.{proved-kept-exactly}
use Rattle.rescue_claims.proofs.kept_exactly.Goals as goal

pub returns : goal.returns
returns c = proved-kept-exactly
