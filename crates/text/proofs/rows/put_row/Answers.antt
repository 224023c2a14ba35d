-- `text::rows::put_row`: the row is copied into a part of its length.
use Rattle.std.proofs.Common.{◌+◌, ◌-◌, arith, length}
use Rattle.wire.proofs.WordLaws.{part_stored}
use Rattle.text.proofs.rows.put_row.Goals as goal

pub returns : goal.returns
returns c =
    let a = c.args in
    let n = a.to + length a.bytes.now - a.to in
    rw c.copy_from_slice.ensures.after (part_stored a.to n a.out.now a.bytes.now (omega arith) (omega arith))
