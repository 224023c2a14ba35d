-- `lift::data_high` meets its contract: it sends exactly where the channel is marked and the address open. Assumes
-- nothing.
use Rattle.lift.specs.Lift.{data_high}
use Rattle.lift.proofs.data_high.Goals as goal

pub returns-then-is_coarse-address_open : goal.returns-then-is_coarse-address_open
unfolding data_high
returns-then-is_coarse-address_open c =
    simp (
      c.entered.ensures,
      c.if-is_coarse-address_open.true,
      ← c.address_open.ensures,
      ← c.is_coarse.ensures,
      c.data2-v.ensures,
    )

pub returns-else-is_coarse-address_open : goal.returns-else-is_coarse-address_open
unfolding data_high
returns-else-is_coarse-address_open c =
    simp (
      c.taken_in.ensures,
      c.with_data_high.ensures,
      c.if-is_coarse-address_open.false,
      ← c.address_open.ensures,
      ← c.is_coarse.ensures,
      c.data2-v.ensures,
    )
