-- `memory::stays_sound` meets its contract: the laws are proved in proofs/Sound.antt. Assumes nothing.
use Rattle.memory.proofs.Sound.{proved-stays-sound}
use Rattle.memory.proofs.stays_sound.Goals as goal

pub returns : goal.returns
returns c = proved-stays-sound
