-- `wire::carry` meets its contract: the bytes passed on stand at the front, as the library moves them, overlapping or
-- not, and what stands behind them is as it was.
use Rattle.std.proofs.Common.{arith, ◌∙◌}
use Rattle.wire.proofs.WordLaws.{moved}
use Rattle.wire.proofs.carry.Goals as goal

pub returns-clause-moved : goal.returns-clause-moved
returns-clause-moved c =
    let a = c.args in
    c.copy_within.ensures.after ∙ moved a.bytes.now a.from a.end c.min-last.result (omega arith) (omega arith)
