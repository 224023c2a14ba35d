-- `memory::Memory::is_sound` meets its contract: each way through its tree is what the definition's row comes to there.
-- Assumes nothing.
use mathlib.Core.Path.{sym, ◌∙◌}
use native.Mathlib.Omega.{arith}
use Rattle.memory.proofs.Sound.{sound-assignable, sound-banks, sound-kind, sound_none, sound-null, sound-other, sound-registered}
use Rattle.memory.proofs.Memory.is_sound.Goals as goal

pub returns-then-bank-eq127 : goal.returns-then-bank-eq127
returns-then-bank-eq127 c =
    rw c.has_sound_bank.ensures
    (sym (sound-null _ c.if-data_high-bank.true c.if-kind-eq-REGISTERED.true c.if-bank-eq127.true))

pub returns-else-bank-eq127 : goal.returns-else-bank-eq127
returns-else-bank-eq127 c =
    rw c.has_sound_bank-else-bank-eq127.ensures
    (sym (sound-registered _ c.if-data_high-bank.true c.if-kind-eq-REGISTERED.true c.if-bank-eq127.false))

pub returns-else-kind-eq-REGISTERED : goal.returns-else-kind-eq-REGISTERED
returns-else-kind-eq-REGISTERED c =
    rw c.has_sound_bank-else-kind-eq-REGISTERED.ensures
    (sym (sound-assignable _ c.if-data_high-bank.true c.if-kind-eq-REGISTERED.false))

pub returns-then-kind-eq-NONE : goal.returns-then-kind-eq-NONE
returns-then-kind-eq-NONE c = sym (sound_none _ (sym c.has_sound_bank-else-data_high-bank.ensures ∙ c.if-has_sound_bank.true) c.if-kind-eq-NONE.true)

pub returns-then-kind-gt-ASSIGNABLE : goal.returns-then-kind-gt-ASSIGNABLE
returns-then-kind-gt-ASSIGNABLE c =
    sym (sound-kind _ (sym c.has_sound_bank-else-data_high-bank.ensures ∙ c.if-has_sound_bank.true) c.if-kind-gt-ASSIGNABLE.true)

pub returns-else-kind-gt-ASSIGNABLE : goal.returns-else-kind-gt-ASSIGNABLE
returns-else-kind-gt-ASSIGNABLE c =
    rw (c.is_number-else-kind-gt-ASSIGNABLE.ensures, c.is_number.ensures)
    (sym
    (sound-other _ (sym c.has_sound_bank-else-data_high-bank.ensures ∙ c.if-has_sound_bank.true) c.if-kind-eq-NONE.false
    (omega (arith, c.if-kind-gt-ASSIGNABLE.false)) c.if-data_high-bank.false))

pub returns-else-has_sound_bank : goal.returns-else-has_sound_bank
returns-else-has_sound_bank c = sym (sound-banks _ (sym c.has_sound_bank-else-data_high-bank.ensures ∙ c.if-has_sound_bank.false))
