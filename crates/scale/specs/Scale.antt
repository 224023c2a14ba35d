-- How a value of s bits becomes one of d bits, and back. One rule for every value and for every two widths.
use Rattle.std.specs.Prelude.{ℕ, zero, suc, ◌+◌, ◌-◌, ◌*◌, ◌/◌, ◌%◌, ◌^◌, ◌<◌, ◌≤◌, cond, ◌≡◌, leb}

-- RULES 7.1, the low places: of e places the first gets bit m - 1 of x, and each further one the next lower bit, and
-- after bit 0 it goes on with bit m - 1 again.
unfoldable pub fill : ℕ → ℕ → ℕ → ℕ
fill m x zero = 0
fill m x (suc e) = fill m x e * 2 + x / 2 ^ (m - 1 - e % m) % 2

-- RULES 7.1, from s to d bits: the value moves up by d - s places. Up to the centre, 2 ^ (s - 1), zeros stand below it;
-- above the centre all its bits but the highest stand there, over and over.
unfoldable pub up : ℕ → ℕ → ℕ → ℕ
up s d x = x * 2 ^ (d - s) + cond (leb x (2 ^ (s - 1))) 0 (fill (s - 1) x (d - s))

-- RULES 7.2, from s to d bits: the s - d lowest bits go.
abbrev pub down : ℕ → ℕ → ℕ → ℕ
down s d y = y / 2 ^ (s - d)

-- 004 D.1.2: what has to hold of any scaling, here over any two widths s ≤ d.
pub record CoreRules : Type 0 where
  pub back : (s d x : ℕ) → down d s (up s d x) ≡ x
  pub fits : (s d x : ℕ) → s ≤ d → x < 2 ^ s → up s d x < 2 ^ d
  pub minimum : (s d : ℕ) → up s d 0 ≡ 0
  pub centre : (s d : ℕ) → 1 ≤ s → s ≤ d → up s d (2 ^ (s - 1)) ≡ 2 ^ (d - 1)
  pub maximum : (s d : ℕ) → 2 ≤ s → s ≤ d → up s d (2 ^ s - 1) ≡ 2 ^ d - 1
  pub order : (s d x y : ℕ) → x < y → up s d x < up s d y
