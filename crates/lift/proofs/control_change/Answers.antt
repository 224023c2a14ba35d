-- `lift::control_change` meets its contract: number by number, as the definition names them. Assumes nothing.
use Rattle.lift.specs.Lift.{control_effect, control_of, controlled, effect_of, lift, plain_effect}
use Rattle.ground.proofs.Tests.{tests}
use Rattle.std.proofs.Common.{arith}
use borrow.Author.Tests.{ne_eqb}
use Rattle.lift.proofs.control_change.Goals as goal

pub returns-in-0 : goal.returns-in-0
unfolding control_effect control_of controlled effect_of lift plain_effect
returns-in-0 c = simp (c.taken_in.ensures, c.with_bank_high.ensures, c.in-0.is, ← c.data1-i.ensures, c.data2-v.ensures)

pub returns-in-32 : goal.returns-in-32
unfolding control_effect control_of controlled effect_of lift plain_effect
returns-in-32 c =
    simp (c.taken_in-in-32.ensures, c.with_bank_low.ensures, c.in-32.is, ← c.data1-i.ensures, c.data2-v.ensures)

pub returns-in-101 : goal.returns-in-101
unfolding control_effect control_of controlled effect_of lift plain_effect
returns-in-101 c =
    simp (
      c.taken_in-in-101.ensures,
      c.with_registered_bank.ensures,
      c.in-101.is,
      ← c.data1-i.ensures,
      c.data2-v.ensures,
    )

pub returns-in-100 : goal.returns-in-100
unfolding control_effect control_of controlled effect_of lift plain_effect
returns-in-100 c =
    simp (
      c.taken_in-in-100.ensures,
      c.with_registered_index.ensures,
      c.in-100.is,
      ← c.data1-i.ensures,
      c.data2-v.ensures,
    )

pub returns-in-99 : goal.returns-in-99
unfolding control_effect control_of controlled effect_of lift plain_effect
returns-in-99 c =
    simp (c.taken_in-in-99.ensures, c.with_assignable_bank.ensures, c.in-99.is, ← c.data1-i.ensures, c.data2-v.ensures)

pub returns-in-98 : goal.returns-in-98
unfolding control_effect control_of controlled effect_of lift plain_effect
returns-in-98 c =
    simp (c.taken_in-in-98.ensures, c.with_assignable_index.ensures, c.in-98.is, ← c.data1-i.ensures, c.data2-v.ensures)

pub returns-in-6 : goal.returns-in-6
unfolding control_effect control_of controlled effect_of lift plain_effect
returns-in-6 c = simp (c.data_high.ensures, c.in-6.is, ← c.data1-i.ensures, c.data2-v.ensures)

pub returns-in-38 : goal.returns-in-38
unfolding control_effect control_of controlled effect_of lift plain_effect
returns-in-38 c = simp (c.data_low.ensures, c.in-38.is, ← c.data1-i.ensures, c.data2-v.ensures)

pub returns-in-96 : goal.returns-in-96
unfolding control_effect control_of controlled effect_of lift plain_effect
returns-in-96 c = simp (c.taken_in-in-96.ensures, c.in-96.is, ← c.data1-i.ensures, c.data2-v.ensures)

pub returns-in-97 : goal.returns-in-97
unfolding control_effect control_of controlled effect_of lift plain_effect
returns-in-97 c = simp (c.taken_in-in-97.ensures, c.in-97.is, ← c.data1-i.ensures, c.data2-v.ensures)

pub returns-in-121 : goal.returns-in-121
unfolding control_effect control_of controlled effect_of lift plain_effect
returns-in-121 c =
    simp (c.plain.ensures, c.with_address_closed.ensures, c.in-121.is, ← c.data1-i.ensures, c.data2-v.ensures)

pub returns-in-120 : goal.returns-in-120
unfolding control_effect control_of controlled effect_of lift plain_effect
returns-in-120 c = simp (c.plain-in-120.ensures, c.in-120.is, ← c.data1-i.ensures, c.data2-v.ensures)

pub returns-in-123 : goal.returns-in-123
unfolding control_effect control_of controlled effect_of lift plain_effect
returns-in-123 c = simp (c.plain-in-123.ensures, c.in-123.is, ← c.data1-i.ensures, c.data2-v.ensures)

pub returns-in_default : goal.returns-in_default
unfolding control_effect control_of controlled effect_of lift plain_effect
returns-in_default c =
    simp (
      tests,
      c.plain-in_default.ensures,
      ne_eqb c.data1-i.result 0 (omega arith),
      ne_eqb c.data1-i.result 32 (omega arith),
      ne_eqb c.data1-i.result 101 (omega arith),
      ne_eqb c.data1-i.result 100 (omega arith),
      ne_eqb c.data1-i.result 99 (omega arith),
      ne_eqb c.data1-i.result 98 (omega arith),
      ne_eqb c.data1-i.result 6 (omega arith),
      ne_eqb c.data1-i.result 38 (omega arith),
      ne_eqb c.data1-i.result 96 (omega arith),
      ne_eqb c.data1-i.result 97 (omega arith),
      ne_eqb c.data1-i.result 121 (omega arith),
      ne_eqb c.data1-i.result 120 (omega arith),
      ne_eqb c.data1-i.result 123 (omega arith),
      ← c.data1-i.ensures,
      c.data2-v.ensures,
    )
