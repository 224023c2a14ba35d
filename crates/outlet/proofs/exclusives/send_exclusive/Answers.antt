-- `outlet::exclusives::send_exclusive` meets its contract: what is good goes on with its count. Assumes nothing.
use mathlib.Core.Path.{sym, ◌∙◌}
use Rattle.outlet.proofs.ExclusiveLaws.{exclusive-few, exclusive-none, exclusive-some}
use Rattle.outlet.proofs.RowLaws.{nothing}
use Rattle.outlet.proofs.exclusives.send_exclusive.Goals as goal

pub send_framed-requires : goal.send_framed-requires
send_framed-requires c =
    let good = sym c.is_clean.ensures ∙ c.if-is_clean.true in
    let few = exclusive-few c.args.w c.args.v c.requires.0 good in
    (few, c.requires.1)

pub returns-then-is_clean : goal.returns-then-is_clean
returns-then-is_clean c =
    let good = sym c.is_clean.ensures ∙ c.if-is_clean.true in
    rw (exclusive-some c.args.w c.args.v c.requires.0 good) c.send_framed.ensures

pub returns-else-is_clean : goal.returns-else-is_clean
returns-else-is_clean c =
    let bad = sym c.is_clean.ensures ∙ c.if-is_clean.false in
    nothing _ _ _ (exclusive-none c.args.w c.args.v c.requires.0 bad) c.requires.1
