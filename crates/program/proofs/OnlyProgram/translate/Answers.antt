-- `program::Only`: no more words are read than it is given, and no more handed back than
-- its output holds. Assumes nothing.
use Rattle.std.proofs.Common.{length, arith}
use Rattle.program.proofs.Bounds.{only-bounds}
use Rattle.program.proofs.OnlyProgram.translate.Goals as goal

pub sent_as_bytes-requires : goal.sent_as_bytes-requires
sent_as_bytes-requires c =
    let a = c.args in
    let u = c.only-done in
    (only-bounds a.self.group a.self.channel (length a.sent.now) a.words.now a.sent.now u.new.out u.result u.auto.out
    u.ensures.report u.ensures.output).1

pub returns-clause-read : goal.returns-clause-read
returns-clause-read c =
    let a = c.args in
    let u = c.only-done in
    let z = only-bounds a.self.group a.self.channel (length a.sent.now) a.words.now a.sent.now u.new.out u.result
    u.auto.out u.ensures.report u.ensures.output in
    omega (arith, c.sent_as_bytes.ensures.read, z.0)
