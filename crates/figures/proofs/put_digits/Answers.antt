-- `figures::put_digits`: the loop's invariant is that the digits stored and those of the places left are all.
use native.Mathlib.Omega.{arith}
use Rattle.figures.proofs.FigureLaws.{finish, no-digits, no_more, start, step}
use Rattle.figures.proofs.put_digits.Goals as goal

pub loop-end-init : goal.loop-end-init
loop-end-init c = start _ _ _ c.requires.0

pub returns-then-left-eq0 : goal.returns-then-left-eq0
returns-then-left-eq0 c =
    let l = c.loop-end in
    let r = finish _ _ _ _ _ _ l.invariant (no-digits l.invariant.more l.left c.if-left-eq0.true) in
    record {
      place = r.0;
      text = r.1;
    }

pub loop-end-preserved : goal.loop-end-preserved
loop-end-preserved c =
    step _ _ _ _ _ _ c.loop-end.invariant c.loop-end-test.true c.if-left-eq0.false

pub returns : goal.returns
returns c =
    let l = c.loop-end in
    let s = l.invariant in
    let r = finish _ _ _ _ _ _ s (no_more s.more l.left (omega (arith, s.count, s.place, c.loop-end-test.false))) in
    record {
      place = omega (arith, r.0, s.place, c.loop-end-test.false);
      text = r.1;
    }
