-- `program::sent_as_bytes` meets its contract: the bytes of the words fit in the text. Assumes nothing.
use Rattle.std.proofs.Common.{sym, arith, length-take-le}
use Rattle.program.proofs.Bounds.{bytes_most}
use Rattle.program.proofs.sent_as_bytes.Goals as goal

pub slice_bounds-bytes_of-end : goal.slice_bounds-bytes_of-end
slice_bounds-bytes_of-end c = sym (length-take-le c.args.done.written c.args.sent.now c.requires)

pub returns-clause-bytes : goal.returns-clause-bytes
returns-clause-bytes c =
    let b = c.bytes_of-bytes in
    omega (arith, b.auto.bytes, bytes_most b.result _ c.args.text.now b.ensures.count)
