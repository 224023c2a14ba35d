-- `figures::put_digits`: the loop's invariant is that the digits stored and those of the places left are all.
use Rattle.figures.proofs.FigureLaws.{Stored}
use Rattle.figures.proofs.put_digits.Given as goal

abbrev pub invariant-loop-end : goal.invariant-loop-end
invariant-loop-end l = Stored l.initial.row l.at l.rest l.row l.left l.end
