-- `figures::exact`: the row is made in a buffer that is long enough, and put where it fits.
use lib.ListN.{replicate}
use Rattle.figures.specs.Figures.{exact_decimal}
use Rattle.figures.proofs.Rows.{row_first}
use Rattle.figures.proofs.exact.Goals as goal

pub returns : goal.returns
returns c =
    let p = c.put_exact-n.ensures in
    let f = row_first (replicate 52 0) (exact_decimal c.args.size) _ _ p.place p.text p.few in
    record {
      place = rw f at c.row.ensures.place;
      text = rw f at c.row.ensures.text;
    }
