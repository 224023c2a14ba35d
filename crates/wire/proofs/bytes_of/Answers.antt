-- One more word stored; in the end as many as there is room for.
use Rattle.std.proofs.Common.{◌/◌, arith, rules, refl, length, take}
use lib.ListN.{length-take}
use Rattle.wire.specs.Words.{bytes_of}
use Rattle.wire.proofs.WordLaws.{bytes-length, bytes-more}
use Rattle.wire.proofs.bytes_of.Goals as goal

pub loop-i-init : goal.loop-i-init
unfolding bytes_of
loop-i-init c = (omega arith, refl, refl)

pub loop-i-preserved : goal.loop-i-preserved
loop-i-preserved c =
    let a = c.args in
    let l = c.loop-i in (
      omega arith,
      search rules,
      rw (c.put_word.ensures, l.invariant.2) (bytes-more a.bytes.now a.words.now l.i (omega arith)),
    )

pub returns-clause-count : goal.returns-clause-count
returns-clause-count c =
    let room = length c.args.bytes.now / 4 in
    let m = length-take room c.args.words.now in
    omega (arith, bytes-length (take room c.args.words.now))
