-- A number of 2 to the -31 in decimal, in ASCII, with all of its places (02 M-110: the shown pitch is exact).
use Rattle.std.specs.Prelude.{ℕ, zero, suc, ◌+◌, ◌*◌, ◌-◌, ◌/◌, ◌%◌, ◌^◌, ◌<◌, ◌≤◌, ◌≡◌, cond, List, [], ◌∷◌, ◌++◌, eqb, length}
use Rattle.text.specs.Lines.{decimal}

-- The first k digits of r / 2 ^ 31, or fewer where nothing is left: tenfold, a digit (from 48 on) stands before the
-- point.
unfoldable pub fraction_digits : ℕ → ℕ → List ℕ
fraction_digits zero r = []
fraction_digits (suc k) r = cond (eqb r 0) [] ((48 + r * 10 / 2 ^ 31) ∷ fraction_digits k (r * 10 % 2 ^ 31))

-- the point (46) and the digits behind it, or nothing for a whole number; 31 digits are enough
unfoldable pub fraction : ℕ → List ℕ
fraction r = cond (eqb r 0) [] (46 ∷ fraction_digits 31 r)

unfoldable pub exact_decimal : ℕ → List ℕ
exact_decimal n = decimal (n / 2 ^ 31) ++ fraction (n % 2 ^ 31)

-- digits read as a number, after those that were read before
unfoldable pub read_after : ℕ → List ℕ → ℕ
read_after n [] = n
read_after n (d ∷ ds) = read_after (n * 10 + (d - 48)) ds

-- Behind the point stand digits, and read as a number over the power of ten that they have places they are r / 2 ^ 31.
pub record Exact (r : ℕ) : Type 0 where
  pub value : read_after 0 (fraction_digits 31 r) * 2 ^ 31 ≡ r * 10 ^ length (fraction_digits 31 r)
  pub few : length (fraction_digits 31 r) ≤ 31

abbrev pub Exactly : Type 0
Exactly = (r : ℕ) → r < 2 ^ 31 → Exact r
