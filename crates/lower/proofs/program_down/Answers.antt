-- `lower::program_down` meets its contract: the flag decides whether the bank goes first. Assumes nothing.
use Rattle.ground.proofs.Tests.{tests}
use Rattle.message.specs.Message.{bank_of, write1}
use Rattle.lower.specs.Lower.{lower}
use Rattle.lower.proofs.program_down.Goals as goal

pub returns-then-has_bank : goal.returns-then-has_bank
unfolding bank_of lower write1
returns-then-has_bank c = simp (
  tests,
  c.no_words.ensures,
  c.voice_word.ensures,
  c.byte1.ensures,
  c.control_word-then-has_bank.ensures,
  c.byte4.ensures,
  c.control_word.ensures,
  c.byte3.ensures,
  c.if-has_bank.true,
  ← c.has_bank.ensures,
)

pub returns-else-has_bank : goal.returns-else-has_bank
unfolding bank_of lower write1
returns-else-has_bank c = simp (
  tests,
  c.one_word.ensures,
  c.byte1-else-has_bank.ensures,
  c.if-has_bank.false,
  ← c.has_bank.ensures,
)
