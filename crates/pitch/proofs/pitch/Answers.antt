-- `pitch::pitch`: the sum has 42 digits at most, and no -0 can come out of it, since the base is none. Assumes nothing.
use mathlib.Core.Path.{sym, subst}
use mathlib.Core.Bool.{false}
use Prim.Native.Nat.{◌^◌}
use native.Mathlib.Nat.{lt_of_lt_of_le}
use lib.Dec.{lit≤}
use lib.Ieee.{Float}
use lib.Ieee.Exact.{HasValue}
use Rattle.pitch.specs.Pitch.{base_of}
use Rattle.pitch.proofs.Exact.{nearest-value, plus-is, size_below, widened}
use Rattle.pitch.proofs.PitchLaws.{proved-operations}
use Rattle.pitch.proofs.pitch.Goals as goal

pub returns : goal.returns
returns c =
    let b = c.base_pitch.ensures in
    let n = base_of c.args.base in
    let v = nearest-value 31 n (lt_of_lt_of_le (size_below b.1) (lit≤ tt)) (lit≤ tt) in (
      plus-is 41 31 _ _ n _ (subst (λ (x : Float). HasValue x false n (2 ^ 31)) (sym b.0) v) c.offset.ensures,
      proved-operations.sum _ _ _ _ (widened (lit≤ tt) b.1) c.offset.ensures,
    )
