-- `text::whole::message`: the sort and the group stand at the head, and the bytes behind them.
use Rattle.std.proofs.Common.{◌≡◌, ◌∙◌}
use Rattle.text.specs.Messages.{head_of}
use Rattle.text.proofs.MessageLaws.{bytes_line}
use Rattle.text.proofs.whole.message.Goals as goal

pub returns : goal.returns
returns c =
    let a = c.args in
    let head : c.as_slice.result.now ≡ head_of a.chain =
    c.as_slice.ensures ∙ rw c.new-head.ensures at c.head.ensures.text in
    let whole = bytes_line _ a.chain a.bytes.now head in
    record {
      place = rw whole at c.line_with_fields.ensures.place;
      text = rw whole at c.line_with_fields.ensures.text;
    }
