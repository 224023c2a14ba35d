-- One more word stored; in the end as many as there is room for.
use Rattle.std.proofs.Common.{arith, rules, length}
use lib.ListN.{length-take}
use Rattle.ground.proofs.Stores.{take-least}
use Rattle.wire.specs.Words.{words_of}
use Rattle.wire.proofs.WordLaws.{words-length, words_more}
use Rattle.wire.proofs.words_of.Goals as goal

pub loop-i-preserved : goal.loop-i-preserved
loop-i-preserved c =
    let a = c.args in
    let l = c.loop-i in (
      omega arith,
      search rules,
      rw (l.invariant.2, c.word_from.ensures) (words_more a.words.now a.bytes.now l.i (omega arith)),
    )

pub returns-clause-count : goal.returns-clause-count
returns-clause-count c =
    let ws = words_of c.args.bytes.now in
    let n = words-length c.args.bytes.now in
    let m = length-take (length c.args.words.now) ws in
    omega arith

pub returns-clause-stored : goal.returns-clause-stored
returns-clause-stored c =
    let a = c.args in
    let l = c.loop-i in
    let ws = words_of a.bytes.now in
    let n = words-length a.bytes.now in
    let m = length-take (length a.words.now) ws in
    rw (take-least (length a.words.now) l.i ws (omega arith)) at l.invariant.2
