-- `cable::state::is_sound`: an exclusive is open, or not.
use Rattle.cable.proofs.SoundWays.{exclusive-sound, short-sound}
use Rattle.cable.proofs.state.is_sound.Goals as goal

pub returns-then-s-eq-EXCLUSIVE : goal.returns-then-s-eq-EXCLUSIVE
returns-then-s-eq-EXCLUSIVE c = rw c.is_held.ensures (exclusive-sound c.args.s c.if-s-eq-EXCLUSIVE.true)

pub returns : goal.returns
returns c = rw (c.needed.ensures, c.is_voice.ensures)
    (short-sound c.args.s c.is_held_short.result c.if-s-eq-EXCLUSIVE.false c.is_held_short.ensures)
