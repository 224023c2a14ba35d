-- The claims: each operation by its law in Exact.antt, and the shown pitch from them. Assumes nothing.
use Prim.Native.Nat.{ℕ, ◌^◌, ◌<◌}
use mathlib.Core.Path.{◌≡◌}
use lib.Dec.{lit<, lit≤}
use lib.IntN.{pos, ◌+ℤ◌}
use lib.Ieee.{Float, binary64, div, mul, sub}
use Rattle.pitch.specs.declared.Base.TheVariants.{Number, Pitch725, Pitch79}
use Rattle.pitch.specs.Dyadic.{Dyadic, nearest, times2}
use Rattle.pitch.specs.Pitch.{base_of, bend_of}
use Rattle.pitch.specs.Claims.{Exactness, Operations, float, power2}
use Rattle.pitch.proofs.Exact.{exactly, finer, minus, over, plus, power, size_below, times, times2-is, whole, widened}

pub proved-operations : Operations
proved-operations =
    record {
      number = λ n h. whole binary64 8 n (lit≤ tt) h;
      pitch725 = λ w h. over binary64 32 0 25 _ _ (lit≤ tt) (lit≤ tt) (whole binary64 32 w (lit≤ tt) h);
      pitch79 = λ v h. over binary64 16 0 9 _ _ (lit≤ tt) (lit≤ tt) (whole binary64 16 v (lit≤ tt) h);
      bend = λ b h. whole binary64 32 b (lit≤ tt) h;
      less = λ x z d. minus binary64 32 0 _ _ _ _ (lit≤ tt) (lit≤ tt) d (power 32 31 (lit< tt));
      divided = λ x z d. over binary64 33 0 31 _ _ (lit≤ tt) (lit≤ tt) d;
      ranged = λ x z u h d. times binary64 33 8 31 0 _ _ _ _ (lit≤ tt) (lit≤ tt) d (whole binary64 8 u (lit≤ tt) h);
      sum = λ x y p q d e. plus binary64 41 31 _ _ _ _ (lit≤ tt) (lit≤ tt) d e;
    }

-- each base, in parts of 2 to the -31
pub number-parts : (n : ℕ) → n < 2 ^ 8 → Dyadic 39 31 (float n) (pos (base_of (Number n)))
number-parts n h = finer 8 0 31 _ _ (proved-operations.number n h)

pub pitch725-parts : (w : ℕ) → w < 2 ^ 32
    → Dyadic 39 31 (div binary64 (float w) (power2 25)) (pos (base_of (Pitch725 w)))
pitch725-parts w h = widened (lit≤ tt) (finer 32 25 6 _ _ (proved-operations.pitch725 w h))

pub pitch79-parts : (v : ℕ) → v < 2 ^ 16
    → Dyadic 39 31 (div binary64 (float v) (power2 9)) (pos (base_of (Pitch79 v)))
pitch79-parts v h = widened (lit≤ tt) (finer 16 9 22 _ _ (proved-operations.pitch79 v h))

-- what a bend adds
abbrev bent : ℕ → ℕ → Float
bent bend units = mul binary64 (div binary64 (sub binary64 (float bend) (power2 31)) (power2 31)) (float units)

pub bend-parts : (bend units : ℕ) → bend < 2 ^ 32 → units < 2 ^ 8 → Dyadic 41 31 (bent bend units) (bend_of bend units)
bend-parts bend units h k =
    let o = proved-operations in
    o.ranged _ _ units k (o.divided _ _ (o.less _ _ (o.bend bend h)))

module _ (bend units : ℕ) (k : bend < 2 ^ 32) (l : units < 2 ^ 8) where
  -- the sum has at most 42 digits, so the float nearest to it is the sum
  exact-from : (x : Float) (n : ℕ) → Dyadic 39 31 x (pos n)
      → let z = pos n +ℤ bend_of bend units in Dyadic 42 31 (nearest 31 z) z × (times2 31 (nearest 31 z) ≡ z)
  exact-from x n d =
      let s = proved-operations.sum _ _ _ _ (widened (lit≤ tt) d) (bend-parts bend units k l) in
      let e = exactly 42 31 (pos n +ℤ bend_of bend units) (lit≤ tt) (size_below s) (lit≤ tt) in
      (e, times2-is 42 31 _ _ e)

pub proved-exactness : Exactness
proved-exactness (Number n) bend units h k l = exact-from bend units k l _ _ (number-parts n h)
proved-exactness (Pitch725 w) bend units h k l = exact-from bend units k l _ _ (pitch725-parts w h)
proved-exactness (Pitch79 v) bend units h k l = exact-from bend units k l _ _ (pitch79-parts v h)
