-- `showing::Display::turn` is done with no more bytes than it was given: the words come from them, and no more words
-- are heard.
use Rattle.std.proofs.Common.{arith, length, length-take}
use Rattle.wire.specs.Words.{words_of}
use Rattle.wire.proofs.WordLaws.{words-length}
use Rattle.showing.proofs.DisplayTurns.turn.Goals as goal

pub returns : goal.returns
returns g c =
    omega (
      arith,
      c.show_some-shown.ensures.read,
      length-take c.words_of-n.result c.words_of-n.new.words,
      c.words_of-n.ensures.count,
      length-take (length c.args.self.now.words) (words_of c.args.bytes.now),
      words-length c.args.bytes.now,
    )
