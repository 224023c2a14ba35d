-- A data byte of a MIDI 1.0 message has seven bits. Assumes nothing.
use Prim.Native.Nat.{ℕ, ◌%◌, ◌^◌}
use mathlib.Core.Path.{◌≡◌}
use native.Mathlib.Omega.{arith}
use Rattle.ump.specs.Word.{data1, data2}

pub seven-bits1 : (w : ℕ) → data1 w % 2 ^ 7 ≡ data1 w
seven-bits1 w = omega arith

pub seven-bits2 : (w : ℕ) → data2 w % 2 ^ 7 ≡ data2 w
seven-bits2 w = omega arith
