-- `tally::ways::Down` counts by the call that lowers: four words are room for whatever a packet becomes.
use Rattle.std.proofs.Common.{◌∙◌}
use Rattle.tally.proofs.TallyLaws.{down-sort}
use Rattle.tally.proofs.ways.DownWay.sort_at.Goals as goal

pub returns : goal.returns
returns c =
    let a = c.args in
    c.sort_of.ensures
    ∙ down-sort a.words.now a.at c.down-done.result
    (rw (c.open_rule.ensures, c.report.ensures) at c.down-done.ensures.report)
