-- `display::picture::is_same_shown`: the derived comparison is of what either is counted from and of its pitch.
use mathlib.Core.Path.{◌∙◌}
use Rattle.display.proofs.LineLaws.{agrees}
use Rattle.display.proofs.picture.is_same_shown.Goals as goal

pub returns : goal.returns
returns c = c.eq.ensures ∙ agrees c.args.one c.args.other
