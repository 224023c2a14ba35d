-- `lift::lifted` meets its contract: status by status; the notes by one row. Assumes nothing.
use Rattle.ground.proofs.Tests.{tests}
use Rattle.lift.specs.Lift.{effect_of, lift}
use Rattle.message.specs.Message.{first2, read1, second2}
use Rattle.ump.proofs.FieldLaws.{seven-bits1, seven-bits2}
use Rattle.lift.proofs.WayLaws.{bend-way, note-way}
use Rattle.ground.proofs.Bools.{neither_left, neither_right}
use lib.Dec.{eqb}
use Rattle.std.proofs.Common.{arith}
use borrow.Author.Tests.{ne_eqb}
use Rattle.lift.proofs.lifted.Goals as goal

pub returns-then-s : goal.returns-then-s
unfolding effect_of first2 lift read1 second2
returns-then-s c = let w = c.args.w in
    let r = c.args.memory in
    rw (c.note.ensures, c.status-s.ensures) (note-way w r (rw c.status-s.ensures at c.if-s.true))

pub returns-in-10 : goal.returns-in-10
unfolding effect_of first2 lift read1 second2
returns-in-10 c =
    simp (
      seven-bits1,
      seven-bits2,
      tests,
      c.sent_up.ensures,
      c.seven_bits.ensures,
      c.data2.ensures,
      c.data1.ensures,
      c.in-10.is,
      c.if-s.false,
      ← c.status-s.ensures,
    )

pub returns-in-11 : goal.returns-in-11
unfolding effect_of first2 lift read1 second2
returns-in-11 c =
    simp (seven-bits1, seven-bits2, tests, c.control_change.ensures, c.in-11.is, c.if-s.false, ← c.status-s.ensures)

pub returns-in-12 : goal.returns-in-12
unfolding effect_of first2 lift read1 second2
returns-in-12 c =
    simp (seven-bits1, seven-bits2, tests, c.program.ensures, c.in-12.is, c.if-s.false, ← c.status-s.ensures)

pub returns-in-13 : goal.returns-in-13
unfolding effect_of first2 lift read1 second2
returns-in-13 c =
    simp (
      seven-bits1,
      seven-bits2,
      tests,
      c.sent_up-in-13.ensures,
      c.seven_bits-in-13.ensures,
      c.data1-in-13.ensures,
      c.in-13.is,
      c.if-s.false,
      ← c.status-s.ensures,
    )

pub returns-in_default : goal.returns-in_default
unfolding effect_of first2 lift read1 second2
returns-in_default c =
    simp (
      bend-way,
      tests,
      c.sent_up-in_default.ensures,
      c.fourteen.ensures,
      c.data1-in_default.ensures,
      c.data2-in_default.ensures,
      ne_eqb c.status-s.result 10 (omega arith),
      ne_eqb c.status-s.result 11 (omega arith),
      ne_eqb c.status-s.result 12 (omega arith),
      ne_eqb c.status-s.result 13 (omega arith),
      neither_left (eqb c.status-s.result 8) (eqb c.status-s.result 9) c.if-s.false,
      neither_right (eqb c.status-s.result 8) (eqb c.status-s.result 9) c.if-s.false,
      ← c.status-s.ensures,
    )
