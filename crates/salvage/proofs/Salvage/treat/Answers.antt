-- `salvage::Salvage::treat` is safe: no more words are read than the bytes have.
use Rattle.std.proofs.Common.{length, ap, arith, length-take}
use Rattle.wire.specs.Words.{words_of}
use Rattle.wire.proofs.WordLaws.{words-length}
use Rattle.stream.specs.declared.Done.{Done}
use Rattle.stream.specs.Call.{within}
use Rattle.stream.proofs.RunLaws.{words-read}
use Rattle.rescuing.specs.Rescue.{tell}
use Rattle.salvage.proofs.Salvage.treat.Goals as goal

pub returns : goal.returns
returns g c =
    omega (
      arith,
      c.first-packets.ensures,
      ap (λ (d : Done). d.read) c.tell_some-told.ensures.report,
      words-read (within tell) (length c.args.self.now.text, c.args.self.now.past) c.first.result.now,
      c.first.ensures,
      c.words_of-n.ensures.count,
      length-take (length c.args.self.now.words) (words_of c.args.bytes.now),
      words-length c.args.bytes.now,
    )
