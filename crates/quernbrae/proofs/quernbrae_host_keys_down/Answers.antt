-- `quernbrae::quernbrae_host_keys_down` meets its contract: it is what the host is told of the record at the asked place.
-- Assumes nothing.
use Rattle.hosts.specs.Hosts.{host_keys_asked}
use Rattle.quernbrae.proofs.quernbrae_host_keys_down.Goals as goal

pub returns : goal.returns
unfolding host_keys_asked
returns c = rw (c.record_at-record.ensures, c.place_asked.ensures) at c.keys_told.ensures
