-- `display::picture::shown`: what is asked for is exact, so it is a number of 2 to the -31.
use Rattle.display.proofs.LineLaws.{shown-parts}
use Rattle.display.proofs.picture.shown.Goals as goal

pub returns-clause-parts : goal.returns-clause-parts
returns-clause-parts c =
    let e = c.ask.ensures.answer in
    shown-parts c.args.desk c.args.note c.args.units _ (rw e at c.ok.ensures.value) (rw e at c.ask.ensures.exact)
