-- Floats that are whole numbers of 2 ^ k-ths, and the whole number that each is.
use Rattle.std.specs.Prelude.{◌≡◌, Bool, true, false, ℕ, suc, ◌*◌, ◌/◌, ◌^◌, ◌<◌, ℤ, pos, negsuc, neg_ℤ, Float}
use Rattle.std.specs.Float.{binary64, fin, inf, nan}
use Rattle.std.specs.Float.Ieee.{down, round, up}
use Rattle.std.specs.Float.Ieee.Exact.{HasValue}

-- n, or -n where s is true
abbrev pub signed : Bool → ℕ → ℤ
signed false n = pos n
signed true n = neg_ℤ (pos n)

-- x is finite, x times 2 ^ k is the whole number z, and z has at most b binary digits
pub record Dyadic (b k : ℕ) (x : Float) (z : ℤ) : Type 0 where
  pub sign : Bool
  pub size : ℕ
  pub value : HasValue x sign size (2 ^ k)
  pub small : size < 2 ^ b
  pub whole : z ≡ signed sign size

-- the f64 nearest to z / 2 ^ k, with +0 for 0
unfoldable pub nearest : ℕ → ℤ → Float
nearest k (pos n) = round binary64 false n (2 ^ k)
nearest k (negsuc n) = round binary64 true (suc n) (2 ^ k)

-- a finite float times 2 ^ k, by its own parts, without the fraction that may be left
abbrev pub times2 : ℕ → Float → ℤ
times2 k nan = pos 0
times2 k (inf s) = pos 0
times2 k (fin s m e) = signed s (m * up e * 2 ^ k / down e)
