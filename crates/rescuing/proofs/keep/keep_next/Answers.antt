-- `rescuing::keep::keep_next`: a cut packet stops and writes nothing, one that is kept is handed on, and any other is
-- passed over.
use Rattle.std.proofs.Common.{sym}
use Rattle.ground.proofs.StoreLaws.{written_none}
use Rattle.stream.specs.Call.{within}
use Rattle.rescuing.specs.Rescue as Rescue
use Rattle.rescuing.proofs.keep.keep_next.Goals as goal

pub returns-in_default-clause-output : goal.returns-in_default-clause-output
unfolding Rescue.keep within
returns-in_default-clause-output c =
    rw (← c.packets_from.ensures.0, ← c.packets_from.ensures.1, c.in_default.ensures.steps.2)
    (sym (written_none c.args.past.written c.args.out.now))
