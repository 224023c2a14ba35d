-- `text::panel::lamps`: a channel with no key down has no line, and any other has its four numbers, its lamps and the
-- end of the line.
use Rattle.std.proofs.Common.{◌≡◌, ◌∙◌}
use Rattle.text.specs.Lamps.{channel_line, lamps_line}
use Rattle.text.proofs.LampLaws.{its-line, no_line}
use Rattle.text.proofs.panel.lamps.Goals as goal

pub returns-in-None : goal.returns-in-None
returns-in-None c =
    let a = c.args in
    let r = no_line a.group a.channel a.keys _ a.out.now a.to c.lowest-lowest.ensures c.in-None.is in
    record {
      place = r.0;
      text = r.1;
    }

pub returns-in-Some : goal.returns-in-Some
unfolding lamps_line
returns-in-Some c =
    let a = c.args in
    let its = its-line a.group a.channel a.keys _ (c.in-Some.key) c.lowest-lowest.ensures c.in-Some.is in
    let whole : c.as_slice.result.now ≡ channel_line a.group a.channel a.keys =
    c.as_slice.ensures
    ∙ rw (
      its,
      c.byte.ensures.text,
      c.lamps.ensures.text,
      c.number_then-in-Some-3.ensures.text,
      c.number_then-in-Some-2.ensures.text,
      c.count.ensures,
      c.number_then-in-Some.ensures.text,
      c.number_then.ensures.text,
      c.new-line.ensures,
    ) in
    record {
      place = rw whole at c.row.ensures.place;
      text = rw whole at c.row.ensures.text;
    }
