-- `claims::two_hosts` meets its contract: the claim is proved in proofs/HostLaws.antt.
use Rattle.claims.proofs.HostLaws.{proved-two-hosts}
use Rattle.claims.proofs.two_hosts.Goals as goal

pub returns : goal.returns
returns c = proved-two-hosts
