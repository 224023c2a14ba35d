-- `rescue_claims::headers` meets its contract: the claim is proved in proofs/HeaderLaws.antt.
use Rattle.rescue_claims.proofs.HeaderLaws.{proved-headers}
use Rattle.rescue_claims.proofs.headers.Goals as goal

pub returns : goal.returns
returns c = proved-headers
