-- `cableflow::counts_of` meets its contract: one way for each refusal, in the order of the run. Assumes nothing.
use mathlib.Core.Path.{sym, ◌∙◌}
use borrow.Author.Tests.{le-ltb, lt-ltb}
use Rattle.cable.specs.State.{pick}
use Rattle.cableflow.specs.Answers.{answers_of}
use Rattle.cableflow.proofs.counts_of.Goals as goal

pub returns-then-group-gt15 : goal.returns-then-group-gt15
unfolding answers_of pick
returns-then-group-gt15 c = rw (lt-ltb _ _ c.if-group-gt15.true) c.none.ensures

pub returns-then-is_sound : goal.returns-then-is_sound
unfolding answers_of pick
returns-then-is_sound c =
    rw (le-ltb _ _ c.if-group-gt15.false, sym c.is_sound.ensures ∙ c.if-is_sound.true) c.counts_in.ensures

pub returns-else-is_sound : goal.returns-else-is_sound
unfolding answers_of pick
returns-else-is_sound c =
    rw (le-ltb _ _ c.if-group-gt15.false, sym c.is_sound.ensures ∙ c.if-is_sound.false) c.none-else-is_sound.ensures
