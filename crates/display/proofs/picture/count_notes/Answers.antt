-- `display::picture::count_notes`: what the filter lets through are the notes that are shown.
use mathlib.Core.Path.{refl, ◌∙◌}
use Rattle.std.proofs.Common.{rules, tests}
use Rattle.std.proofs.lemmas.Iterator.{YieldsList-from_range}
use Rattle.std.proofs.lemmas.Iterator.Consumers.{YieldsList-at, YieldsList-from_filter, count_from_yields_List}
use Rattle.display.proofs.LineLaws.{filtered, is_shown}
use Rattle.display.proofs.picture.count_notes.Goals as goal

pub returns : goal.returns
returns c =
    count_from_yields_List c.filter.result _ c.count.ensures.ran (YieldsList-from_filter _
    (is_shown c.args.desk c.args.units)
    (YieldsList-at c.filter.ensures.source (YieldsList-from_range 0 128 128 refl refl)) c.filter.ensures.closure
    (λ x b q k. search (rules, tests)))
    ∙ filtered c.args.desk c.args.units 128
