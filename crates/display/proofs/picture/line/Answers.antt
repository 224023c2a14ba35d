-- `display::picture::line`: the line is made in a buffer that is long enough, and put where it fits.
use lib.ListN.{replicate}
use Rattle.figures.proofs.Rows.{row_first}
use Rattle.display.specs.Line.{line_of}
use Rattle.display.proofs.picture.line.Goals as goal

pub returns : goal.returns
returns c =
    let a = c.args in
    let p = c.put_line-n.ensures in
    let f = row_first (replicate 8192 0) (line_of a.desk a.units) _ _ p.place p.text p.few in
    record {
      place = rw f at c.row.ensures.place;
      text = rw f at c.row.ensures.text;
    }
