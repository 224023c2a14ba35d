-- `text::rescue::bytes_line`: a number behind a name of six bytes.
use Rattle.text.specs.Rescue.{bytes_line}
use Rattle.text.proofs.rescue.bytes_line.Goals as goal

pub returns : goal.returns
unfolding bytes_line
returns c =
    record {
      place = c.named_line.ensures.place;
      text = c.named_line.ensures.text;
    }
