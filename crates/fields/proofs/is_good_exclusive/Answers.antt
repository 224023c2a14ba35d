-- `fields::is_good_exclusive` meets its contract: a byte behind the count is not asked. Assumes nothing.
use Rattle.fields.specs.Check.{exclusive_fields}
use Rattle.fields.proofs.CheckLaws.{counted-good}
use Rattle.fields.proofs.is_good_exclusive.Goals as goal

pub returns : goal.returns
unfolding exclusive_fields
returns c = simp (counted-good, ← c.byte3-2.ensures, ← c.byte4-2.ensures, ← c.byte1.ensures, ← c.byte2.ensures, ← c.byte3.ensures, ← c.byte4.ensures, ← c.count-n.ensures)
