-- `pitch::offset`: the bend less its start has 33 digits, the quotient moves the point, and the product has 41 digits.
-- Assumes nothing.
use lib.Ieee.{of_bits}
use Rattle.pitch.proofs.PitchLaws.{bend-parts}
use Rattle.pitch.proofs.offset.Goals as goal

pub returns : goal.returns
unfolding of_bits
returns c =
    bend-parts c.args.bend c.args.units c.ranges.bend.fits c.ranges.units.fits
