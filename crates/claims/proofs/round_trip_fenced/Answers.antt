-- `claims::round_trip_fenced` meets its contract: the claim is proved in proofs/RoundTrip.antt.
use Rattle.claims.proofs.RoundTrip.{proved-round-trip-fenced}
use Rattle.claims.proofs.round_trip_fenced.Goals as goal

pub returns : goal.returns
returns c = proved-round-trip-fenced
