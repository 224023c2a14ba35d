-- `text::rescue::drop_line`: the place of the packet, the numbers of its call, and the end of the line.
use Rattle.std.proofs.Common.{◌≡◌, ◌∙◌}
use Rattle.text.specs.Rescue.{drop_line}
use Rattle.text.proofs.RescueLaws.{drop_is}
use Rattle.text.proofs.rescue.drop_line.Goals as goal

pub returns : goal.returns
returns c =
    let a = c.args in
    let whole : c.as_slice.result.now ≡ drop_line a.at a.answer a.count a.bad =
    c.as_slice.ensures
    ∙ rw (c.byte.ensures.text, c.call.ensures.text, c.number_then.ensures.text, c.new-line.ensures)
    (drop_is a.at a.answer a.count a.bad) in
    record {
      place = rw whole at c.row.ensures.place;
      text = rw whole at c.row.ensures.text;
    }
