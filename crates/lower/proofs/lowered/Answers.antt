-- `lower::lowered` meets its contract: the messages that most are first, and then status by status. Assumes nothing.
use mathlib.Core.Path.{sym, ap, ◌∙◌}
use Rattle.ground.proofs.Tests.{tests}
use Rattle.message.specs.Message.{read2, write1}
use Rattle.lower.specs.Lower.{lower}
use Rattle.lower.specs.Values.{packed}
use Rattle.lower.proofs.LowerLaws.{formless-status, keyed-lowers}
use Rattle.std.proofs.Common.{arith}
use Rattle.lower.proofs.lowered.Goals as goal

pub returns-then-is_keyed : goal.returns-then-is_keyed
unfolding lower read2 write1
returns-then-is_keyed c =
    let a = c.args in
    c.keyed_words.ensures
    ∙ ap packed (keyed-lowers a.w a.v (sym c.is_keyed.ensures ∙ c.if-is_keyed.true))

pub returns-in_default : goal.returns-in_default
unfolding lower read2 write1
returns-in_default c =
    let a = c.args in
    let s = c.status-s in
    let none = sym c.is_keyed.ensures ∙ c.if-is_keyed.false in
    rw (formless-status a.w a.v s.result s.ensures (rw (← s.ensures) at none) (omega arith)
    (omega arith) (omega arith) (omega arith) (omega arith))
    c.no_words-in_default.ensures

pub returns-then-byte3-byte4 : goal.returns-then-byte3-byte4
unfolding lower read2 write1
returns-then-byte3-byte4 c = simp (
  tests,
  c.no_words.ensures,
  c.if-byte3-byte4.true,
  ← c.byte4.ensures,
  ← c.byte3.ensures,
  c.in-2.is,
  ← c.status-s.ensures,
)

pub returns-else-byte3-byte4 : goal.returns-else-byte3-byte4
unfolding lower read2 write1
returns-else-byte3-byte4 c = simp (
  tests,
  c.entered_by.ensures,
  c.if-byte3-byte4.false,
  ← c.byte4.ensures,
  ← c.byte3.ensures,
  c.in-2.is,
  ← c.status-s.ensures,
)

pub returns-in-3 : goal.returns-in-3
unfolding lower read2 write1
returns-in-3 c = simp (c.entered_by-in-3.ensures, c.in-3.is, ← c.status-s.ensures)

pub returns-in-12 : goal.returns-in-12
unfolding lower read2 write1
returns-in-12 c = simp (c.program_down.ensures, c.in-12.is, ← c.status-s.ensures)

pub returns-in-13 : goal.returns-in-13
unfolding lower read2 write1
returns-in-13 c = simp (
  c.one_word.ensures,
  c.value_down.ensures,
  c.in-13.is,
  ← c.status-s.ensures,
)

pub returns-in-14 : goal.returns-in-14
unfolding lower read2 write1
returns-in-14 c = simp (c.bend_down.ensures, c.in-14.is, ← c.status-s.ensures)
