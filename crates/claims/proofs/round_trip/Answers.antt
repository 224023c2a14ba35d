-- `claims::round_trip` meets its contract: the claim is proved in proofs/RoundTrip.antt.
use Rattle.claims.proofs.RoundTrip.{proved-round-trip}
use Rattle.claims.proofs.round_trip.Goals as goal

pub returns : goal.returns
returns c = proved-round-trip
