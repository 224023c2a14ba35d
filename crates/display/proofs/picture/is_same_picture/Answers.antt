-- `display::picture::is_same_picture`: every note is compared.
use mathlib.Core.Path.{refl, ◌∙◌}
use Rattle.std.proofs.Common.{rules, tests}
use Rattle.std.proofs.lemmas.Iterator.{YieldsList-from_range}
use Rattle.std.proofs.lemmas.Iterator.Search.{all_from_yields_List}
use Rattle.display.proofs.LineLaws.{compared, is_same}
use Rattle.display.proofs.picture.is_same_picture.Goals as goal

pub returns : goal.returns
returns c =
    let a = c.args in
    all_from_yields_List (is_same a.one a.other a.units) _ _ _ c.all.ensures.ran
    (YieldsList-from_range 0 128 128 refl refl) (λ x b q k. search (rules, tests))
    ∙ compared a.one a.other a.units 128
