-- `text::spell` meets its contract. The loop's invariant: the last digits are stored, and what is left of the number is
-- what stands before them. Assumes nothing.
use Prim.Native.Nat.{◌+◌}
use mathlib.Core.Path.{refl}
use native.Mathlib.Omega.{arith}
use borrow.Author.Rules.{rules}
use Rattle.text.proofs.LineLaws.{none-spelled, rest-on, spelled}
use Rattle.text.proofs.spell.Goals as goal

pub loop-i-init : goal.loop-i-init
loop-i-init c =
    let a = c.args in
    let s = none-spelled a.out.now a.n a.base a.count (a.to + a.count) in
    (omega arith, refl, s.0, s.1)

pub loop-i-preserved : goal.loop-i-preserved
loop-i-preserved c =
    let a = c.args in
    let l = c.loop-i in
    let t = c.loop-i-test.true in (
      omega arith,
      search rules,
      rw l.invariant.2 (rest-on a.n a.base a.count l.i t l.invariant.0),
      rw (c.glyph.ensures, l.invariant.2, l.invariant.3)
          (spelled a.out.now a.n a.base a.count a.to l.i t l.invariant.0),
    )
