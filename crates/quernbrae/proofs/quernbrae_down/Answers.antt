-- `quernbrae::quernbrae_down` meets its contract: it is the call down of `voice`, with nothing read or written before.
-- Assumes nothing.
use Rattle.std.proofs.Common.{◌∙◌}
use Rattle.screen.specs.Screen.{open_rule}
use Rattle.quernbrae.proofs.Said.{down-said}
use Rattle.quernbrae.proofs.quernbrae_down.Goals as goal

pub returns : goal.returns
returns c =
    let a = c.args in
    let r = rw (c.open_rule.ensures, c.report.ensures) at c.down.ensures.report in
    let o = rw (c.open_rule.ensures, c.report.ensures) at c.down.ensures.output in
    let z = down-said open_rule a.words.now a.out.now in
    record { report = r ∙ z.0; output = o ∙ z.1 }
