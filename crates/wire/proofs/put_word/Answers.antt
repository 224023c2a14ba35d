-- `wire::put_word` meets its contract: the four bytes of the word stand in the part that they are copied to, which has
-- four places.
use Rattle.std.proofs.Common.{◌+◌, ◌-◌, arith}
use Rattle.wire.specs.Words.{four_bytes}
use Rattle.wire.proofs.WordLaws.{part_stored}
use Rattle.wire.proofs.put_word.Goals as goal

pub returns : goal.returns
returns c =
    let a = c.args in
    rw (c.copy_from_slice.ensures.after, c.to_be_bytes.ensures)
    (part_stored a.at (a.at + 4 - a.at) a.bytes.now (four_bytes a.w) (omega arith) (omega arith))
