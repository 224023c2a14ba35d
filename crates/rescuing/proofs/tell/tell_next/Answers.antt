-- `rescuing::tell::tell_next`: a cut packet stops and says nothing, and any other is told.
use Rattle.std.proofs.Common.{sym}
use Rattle.ground.proofs.StoreLaws.{written_none}
use Rattle.stream.specs.Call.{within}
use Rattle.rescuing.specs.Rescue.{tell}
use Rattle.rescuing.proofs.tell.tell_next.Goals as goal

pub returns-in-None-clause-text : goal.returns-in-None-clause-text
unfolding tell within
returns-in-None-clause-text c =
    rw (← c.packets_from.ensures.0, ← c.packets_from.ensures.1, c.in-None.ensures.steps.2)
    (sym (written_none c.args.told.done.written c.args.text.now))
