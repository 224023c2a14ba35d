-- `program::Down`: the run reads no more words than it is given, and sends no more than its output holds. Assumes
-- nothing.
use Rattle.std.proofs.Common.{length, arith}
use Rattle.flow.proofs.BoundLaws.{down-bounds}
use Rattle.program.proofs.DownProgram.translate.Goals as goal

pub sent_as_bytes-requires : goal.sent_as_bytes-requires
sent_as_bytes-requires c =
    let a = c.args in
    let u = c.down_some-down in
    (down-bounds (length a.sent.now) a.words.now a.sent.now u.new.out u.result.ran u.auto.out
    u.ensures.report u.ensures.output).1

pub returns : goal.returns
returns c =
    let a = c.args in
    let u = c.down_some-down in
    let b = c.sent_as_bytes.ensures in
    let z = down-bounds (length a.sent.now) a.words.now a.sent.now u.new.out u.result.ran u.auto.out
    u.ensures.report u.ensures.output in
    record { read = omega (arith, b.read, z.0); bytes = b.bytes }
