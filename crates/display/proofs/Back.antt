-- A shown pitch turned back into the whole number that it is times 2 to the 31: the product and the cast lose nothing.
-- Assumes nothing.
use Prim.Native.Nat.{ℕ, suc, ◌+◌, ◌*◌, ◌^◌, ◌<◌}
use mathlib.Core.Path.{◌≡◌, refl, sym, ap, ◌∙◌, subst}
use mathlib.Core.Bool.{Bool, true, false, true≢false}
use native.Mathlib.Nat.{le_of_lt, lt_of_lt_of_le, mul-pos, zero-mul}
use native.Mathlib.Omega.{arith}
use borrow.Author.Tests.{le-ltb, lt-ltb}
use lib.Dec.{T, le→leb, lit<, lit≤}
use lib.IntN.{ℤ, nat_abs, negsuc, pos}
use lib.Ieee.{Float, binary64, down, fin, in_float, in_unsigned, inf, lt, mul, nan, of_int, to_unsigned, up}
use lib.Ieee.Back.{unsigned_back}
use lib.Ieee.Exact.{HasValue}
use lib.Ieee.Fits.{down_pos}
use lib.Ieee.Scale.{round_same}
use Rattle.std.specs.Float.{float_with_sign}
use Rattle.pitch.specs.Dyadic.{nearest, times2}
use Rattle.pitch.proofs.Exact.{below-value, exactly, nearest-value, times2-is}
use Rattle.display.specs.Line.{Parts, below0}

abbrev two31 : Float
two31 = fin false 1 (pos 31)

abbrev zero0 : Float
zero0 = fin false 0 (pos 0)

-- a float that is n / 2 ^ 31, times 2 ^ 31
times-back : (x : Float) (n : ℕ) → HasValue x false n (2 ^ 31) → mul binary64 x two31 ≡ of_int binary64 (pos n)
unfolding mul of_int
times-back nan n v = absurd v
times-back (inf s) n v = absurd v
times-back (fin true m e) n v = absurd (true≢false v.0)
times-back (fin false m e) n v =
    round_same binary64 false (m * up e * (1 * 2 ^ 31)) (down e * 1) n 1 (omega (arith, down_pos e)) (lit< tt)
    (omega (arith, v.1))

-- so it is cast to n
cast-back : (x : Float) (n : ℕ) → HasValue x false n (2 ^ 31) → n < 2 ^ 53
    → T (in_unsigned binary64 64 (mul binary64 x two31)) × (to_unsigned 64 (mul binary64 x two31) ≡ n)
unfolding in_float
cast-back x n v h =
    rw (times-back x n v) (unsigned_back binary64 64 n (le→leb n (2 ^ 53) (le_of_lt h)) (lt_of_lt_of_le h (lit≤ tt)))

-- a number with a multiple that is not 0 is not 0
above : (a n d : ℕ) → a * 2 ^ 31 ≡ n * d → 0 < d → 0 < n → 0 < a
above a n d e h k = omega (arith, mul-pos k h)

-- its sign, and that of a negative one
not-below : (x : Float) (n : ℕ) → HasValue x false n (2 ^ 31) → lt x zero0 ≡ false
unfolding lt
not-below nan n v = absurd v
not-below (inf s) n v = absurd v
not-below (fin true m e) n v = absurd (true≢false v.0)
not-below (fin false m e) n v = le-ltb (m * up e * 1) (0 * down e) (omega (arith, zero-mul (down e)))

is_below : (x : Float) (n : ℕ) → HasValue x true (suc n) (2 ^ 31) → lt x zero0 ≡ true
unfolding lt
is_below nan n v = absurd v
is_below (inf s) n v = absurd v
is_below (fin false m e) n v = absurd (true≢false (sym v.0))
is_below (fin true m e) n v =
    let p = down_pos e in
    let q : 0 < m * up e = above (m * up e) (suc n) (down e) v.1 p (omega arith) in
    lt-ltb 0 (m * up e * 1 + 0 * 1 * down e) (omega (arith, zero-mul (down e)))

-- without its sign
abbrev without_sign : Float → Float
without_sign x = float_with_sign false x

positive : (x : Float) (s : Bool) (n : ℕ) → HasValue x s n (2 ^ 31) → HasValue (without_sign x) false n (2 ^ 31)
unfolding float_with_sign
positive nan s n v = absurd v
positive (inf t) s n v = absurd v
positive (fin t m e) s n v = (refl, v.1)

-- the whole number, by its sign
abbrev Turned : Float → ℤ → Type 0
Turned x z =
    (lt x zero0 ≡ below0 z)
    × T (in_unsigned binary64 64 (mul binary64 (without_sign x) two31))
    × (to_unsigned 64 (mul binary64 (without_sign x) two31) ≡ nat_abs z)

turned_by : (x : Float) (z : ℤ) → x ≡ nearest 31 z → nat_abs z < 2 ^ 53 → Turned x z
unfolding nearest
turned_by x (pos n) e h =
    let v = subst (λ (y : Float). HasValue y false n (2 ^ 31)) (sym e) (nearest-value 31 n h (lit≤ tt)) in
    let k = cast-back (without_sign x) n (positive x false n v) h in
    (not-below x n v, k.0, k.1)
turned_by x (negsuc n) e h =
    let v = subst (λ (y : Float). HasValue y true (suc n) (2 ^ 31)) (sym e) (below-value 31 n h (lit≤ tt)) in
    let k = cast-back (without_sign x) (suc n) (positive x true (suc n) v) h in
    (is_below x n v, k.0, k.1)

pub turned : (x : Float) → Parts x → Turned x (times2 31 x)
turned x p =
    let z = p.whole in
    let e : times2 31 x ≡ z =
    ap (times2 31) p.is ∙ times2-is 53 31 _ _ (exactly 53 31 z (lit≤ tt) p.small (lit≤ tt)) in
    rw e (turned_by x z p.is p.small)

-- it has no more than 53 digits
pub small : (x : Float) → Parts x → nat_abs (times2 31 x) < 2 ^ 53
small x p =
    let z = p.whole in
    let e : times2 31 x ≡ z =
    ap (times2 31) p.is ∙ times2-is 53 31 _ _ (exactly 53 31 z (lit≤ tt) p.small (lit≤ tt)) in
    rw e p.small
