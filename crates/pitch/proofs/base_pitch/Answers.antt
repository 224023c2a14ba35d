-- `pitch::base_pitch`: a note number is a whole float, and the other two move their point. Assumes nothing.
use mathlib.Core.Path.{sym, ap, ◌∙◌}
use Rattle.std.proofs.Common.{◌<◌, ◌^◌, arith}
use native.Mathlib.Nat.{lt_of_lt_of_le}
use lib.Dec.{lit≤}
use lib.IntN.{ℤ, pos}
use lib.Ieee.{of_bits}
use Rattle.pitch.specs.declared.Base.{Base}
use Rattle.pitch.specs.Dyadic.{nearest}
use Rattle.pitch.specs.Pitch.{base_of}
use Rattle.pitch.proofs.Exact.{cast_is, equal, over-is}
use Rattle.pitch.proofs.PitchLaws.{number-parts, pitch725-parts, pitch79-parts}
use Rattle.pitch.proofs.base_pitch.Goals as goal

abbrev whole : Base → ℤ
whole a = pos (base_of a)

pub returns-in-Number : goal.returns-in-Number
returns-in-Number c =
    let is = ap whole c.in-Number.is in
    (cast_is _ 31 ∙ ap (nearest 31) (sym is), equal is (number-parts _ (omega arith)))

pub returns-in-Pitch725 : goal.returns-in-Pitch725
unfolding of_bits
returns-in-Pitch725 c =
    let is = ap whole c.in-Pitch725.is in
    let h : c.in-Pitch725.w < 2 ^ 32 = omega arith in
    (over-is _ 25 6 (lt_of_lt_of_le h (lit≤ tt)) ∙ ap (nearest 31) (sym is), equal is (pitch725-parts _ h))

pub returns-in-Pitch79 : goal.returns-in-Pitch79
unfolding of_bits
returns-in-Pitch79 c =
    let is = ap whole c.in-Pitch79.is in
    let h : c.in-Pitch79.h < 2 ^ 16 = omega arith in
    (over-is _ 9 22 (lt_of_lt_of_le h (lit≤ tt)) ∙ ap (nearest 31) (sym is), equal is (pitch79-parts _ h))
