-- `text::places` meets its contract. The loop's invariant: the places counted and those of what is left are the
-- number's, and one more. The measure is what is left. Assumes nothing.
use native.Mathlib.Omega.{arith}
use Rattle.text.proofs.LineLaws.{places-few, places-more, places-one}
use Rattle.text.proofs.places.Goals as goal

pub loop-rest-init : goal.loop-rest-init
loop-rest-init c = (omega arith, places-few c.args.n (omega arith))

pub loop-rest-preserved : goal.loop-rest-preserved
loop-rest-preserved c = (omega (arith, places-more c.loop-rest.rest c.loop-rest-test.true), c.loop-rest.invariant.1)

pub returns : goal.returns
returns c = let o = places-one c.loop-rest.rest c.loop-rest-test.false in record {
  count = omega arith;
  few = omega arith;
}
