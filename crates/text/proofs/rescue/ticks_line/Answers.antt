-- `text::rescue::ticks_line`: a number behind a name of six bytes.
use Rattle.text.specs.Rescue.{ticks_line}
use Rattle.text.proofs.rescue.ticks_line.Goals as goal

pub returns : goal.returns
unfolding ticks_line
returns c =
    record {
      place = c.named_line.ensures.place;
      text = c.named_line.ensures.text;
    }
