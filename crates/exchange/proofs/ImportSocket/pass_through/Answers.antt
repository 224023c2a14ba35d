-- `exchange::Import::pass_through` meets its contract: the run reads no more bytes than it is given, sends no more words
-- than its output holds, and the bytes of those fit in the text. Assumes nothing.
use native.Mathlib.Omega.{arith}
use lib.ListN.{length}
use Rattle.program.proofs.Bounds.{bytes_most}
use Rattle.cableflow.proofs.BoundLaws.{import-bounds}
use Rattle.exchange.proofs.ImportSocket.pass_through.Goals as goal

pub slice_bounds-bytes_of-end : goal.slice_bounds-bytes_of-end
slice_bounds-bytes_of-end c =
    let a = c.args in
    let u = c.import_some-imported in
    (import-bounds a.self.now.group (length a.words.now) a.self.now.cable a.bytes.now a.words.now u.new.out u.result.ran u.auto.out
    u.ensures.report u.ensures.output).1

pub returns : goal.returns
returns c =
    let a = c.args in
    let u = c.import_some-imported in
    let b = c.bytes_of-written in
    let z = import-bounds a.self.now.group (length a.words.now) a.self.now.cable a.bytes.now a.words.now u.new.out u.result.ran
    u.auto.out u.ensures.report u.ensures.output in
    record { read = z.0; bytes = omega (arith, b.auto.bytes, bytes_most b.result _ a.text.now b.ensures.count) }
