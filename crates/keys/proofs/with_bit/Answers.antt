-- `keys::with_bit`: one shifted by the place is the bit's own number.
use Rattle.keys.specs.Keys.{with_bit, without}
use Rattle.keys.proofs.Bit.{one_shl}
use Rattle.keys.proofs.with_bit.Goals as goal

pub returns-then-set : goal.returns-then-set
unfolding with_bit without
returns-then-set c = rw (one_shl c.args.at c.requires, c.if-set.true)

pub returns-else-set : goal.returns-else-set
unfolding with_bit without
returns-else-set c = rw (one_shl c.args.at c.requires, c.if-set.false)
