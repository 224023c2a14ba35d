-- `claims::round_trip_gated` meets its contract: the claim is proved in proofs/RoundTrip.antt.
use Rattle.claims.proofs.RoundTrip.{proved-round-trip-gated}
use Rattle.claims.proofs.round_trip_gated.Goals as goal

pub returns : goal.returns
returns c = proved-round-trip-gated
