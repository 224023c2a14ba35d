-- `text::whole::dropped`: the answer and a space, the head, and the end of the line.
use Rattle.std.proofs.Common.{◌≡◌, ◌∙◌}
use Rattle.text.specs.Lines.{number_then}
use Rattle.text.specs.Messages.{dropped_line}
use Rattle.text.proofs.whole.dropped.Goals as goal

pub returns : goal.returns
unfolding number_then dropped_line
returns c =
    let a = c.args in
    let whole : c.as_slice.result.now ≡ dropped_line a.answer a.chain =
    c.as_slice.ensures
    ∙ rw (c.byte.ensures.text, c.head.ensures.text, c.number_then.ensures.text, c.new-line.ensures) in
    record {
      place = rw whole at c.row.ensures.place;
      text = rw whole at c.row.ensures.text;
    }
