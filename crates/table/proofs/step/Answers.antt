-- `table::step` meets its contract: what a job asks for is `voice::up`'s call. Assumes nothing.
use Rattle.stream.specs.Call.{within}
use Rattle.voice.specs.Packet.{call_by}
use Rattle.table.specs.Job.{record_step}
use Rattle.table.proofs.step.Goals as goal

pub returns : goal.returns
unfolding record_step within call_by
returns c = record { turn = c.up.ensures.turn; output = c.up.ensures.output }
