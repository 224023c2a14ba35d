-- `keys::Keys::with_key`: the key's own half is taken, changed and put back, and the other stays.
use native.Mathlib.Omega.{arith}
use Rattle.keys.proofs.Laws.{high-with-key, low-with-key, no-such-key}
use Rattle.keys.proofs.Keys.with_key.Goals.{then-in_low, else-in_low}
use Rattle.keys.proofs.Keys.with_key.Goals as goal

pub returns-then-key-gt127 : goal.returns-then-key-gt127
returns-then-key-gt127 c = no-such-key c.args.self c.args.key c.args.down c.if-key-gt127.true

pub returns-then-in_low-2 : goal.returns-then-in_low-2
returns-then-in_low-2 c =
    let a = c.args in
    elim c.if-in_low.branch [
      | then-in_low w ↦ low-with-key a.self a.key _ _ a.down c.if-in_low-2.true w.old-is c.with_bit-half.ensures
      | else-in_low w ↦ absurd (omega (arith, w.if-in_low.false, c.if-in_low-2.true))
    ]

pub returns-else-in_low-2 : goal.returns-else-in_low-2
returns-else-in_low-2 c =
    let a = c.args in
    let e = c.with_bit-half.ensures in
    elim c.if-in_low.branch [
      | then-in_low w ↦ absurd (omega (arith, w.if-in_low.true, c.if-in_low-2.false))
      | else-in_low w ↦ high-with-key a.self a.key _ _ a.down c.if-in_low-2.false (omega arith) w.old-is e
    ]
