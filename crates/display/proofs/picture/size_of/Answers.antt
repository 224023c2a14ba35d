-- `display::picture::size_of`: the product is the whole number, and is cast to it.
use lib.Ieee.{of_bits}
use Rattle.display.proofs.Back.{turned}
use Rattle.display.proofs.picture.size_of.Goals as goal

pub float_to_int-result : goal.float_to_int-result
unfolding of_bits
float_to_int-result c = rw c.abs.ensures.value (turned _ c.requires).1

pub returns : goal.returns
unfolding of_bits
returns c = rw c.abs.ensures.value (turned _ c.requires).2
