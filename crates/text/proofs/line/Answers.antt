-- `text::line`: the numbers of the call stand at the head, and the words sent behind them.
use Rattle.std.proofs.Common.{◌≡◌, ◌∙◌}
use Rattle.text.specs.Lines.{call_of}
use Rattle.text.proofs.LineLaws.{call_line}
use Rattle.text.proofs.line.Goals as goal

pub returns : goal.returns
returns c =
    let a = c.args in
    let head : c.as_slice.result.now ≡ call_of a.answer a.read a.place =
    c.as_slice.ensures ∙ rw c.new-head.ensures at c.call.ensures.text in
    let whole = call_line _ a.answer a.read a.place a.words.now head in
    record {
      place = rw whole at c.line_with_fields.ensures.place;
      text = rw whole at c.line_with_fields.ensures.text;
    }
