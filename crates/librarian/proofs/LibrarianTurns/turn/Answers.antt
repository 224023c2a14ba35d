-- `librarian::Librarian::turn` is done with no more bytes than it was given: the words come from them, and no more of
-- the words are collected.
use Rattle.std.proofs.Common.{arith, length, length-take}
use Rattle.wire.specs.Words.{words_of}
use Rattle.wire.proofs.WordLaws.{words-length}
use Rattle.gather.proofs.GatherLaws.{run-read}
use Rattle.librarian.proofs.LibrarianTurns.turn.Goals as goal

pub overflow_mul-result : goal.overflow_mul-result
overflow_mul-result g c =
    omega (
      arith,
      run-read _ _ _ _ c.gather_some-done.ensures.report,
      length-take c.words_of-n.result c.words_of-n.new.words,
    )

pub returns : goal.returns
returns g c =
    omega (
      arith,
      run-read _ _ _ _ c.gather_some-done.ensures.report,
      length-take c.words_of-n.result c.words_of-n.new.words,
      c.words_of-n.ensures.count,
      length-take (length c.args.self.now.words) (words_of c.args.bytes.now),
      words-length c.args.bytes.now,
    )
