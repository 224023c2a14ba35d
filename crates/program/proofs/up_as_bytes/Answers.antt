-- `program::up_as_bytes` meets its contract: the run reads no more words than it is given, and sends no more than its
-- output holds. Assumes nothing.
use Rattle.std.proofs.Common.{length, arith}
use Rattle.flow.proofs.BoundLaws.{up-bounds}
use Rattle.program.proofs.up_as_bytes.Goals as goal

pub sent_as_bytes-requires : goal.sent_as_bytes-requires
sent_as_bytes-requires c =
    let a = c.args in
    let u = c.up_some-up in
    (up-bounds (length a.sent.now) a.table.records a.words.now a.sent.now u.new.out u.result.ran.done u.auto.out
    u.ensures.report u.ensures.output).1

pub returns-clause-read : goal.returns-clause-read
returns-clause-read c =
    let a = c.args in
    let u = c.up_some-up in
    let z = up-bounds (length a.sent.now) a.table.records a.words.now a.sent.now u.new.out u.result.ran.done u.auto.out
    u.ensures.report u.ensures.output in
    omega (arith, c.sent_as_bytes.ensures.read, z.0)
