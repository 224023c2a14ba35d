-- `screen::lets_down` meets its contract: a rule that asks nothing lets everything pass. Assumes nothing.
use mathlib.Core.Path.{sym, ◌∙◌}
use Rattle.screen.specs.Downward.{lets_down}
use Rattle.screen.proofs.DownLaws.{unruled-lets}
use Rattle.screen.proofs.lets_down.Goals as goal

pub returns-then-is_ruled : goal.returns-then-is_ruled
unfolding lets_down
returns-then-is_ruled c = simp (c.message_type.ensures, c.is_outside.ensures)

pub returns-else-is_ruled : goal.returns-else-is_ruled
returns-else-is_ruled c =
    let a = c.args in
    sym (unruled-lets a.rule a.w (sym c.is_ruled.ensures ∙ c.if-is_ruled.false))
