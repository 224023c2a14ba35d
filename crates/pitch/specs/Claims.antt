-- What is claimed of pitches: that they are exact, and that every operation on the way is (02 M-110).
use Rattle.std.specs.Prelude.{ℕ, ◌^◌, ◌<◌, ◌≡◌, false, ℤ, pos, ◌+ℤ◌, ◌-ℤ◌, ◌*ℤ◌, Float, Some}
use Rattle.std.specs.Float.Ieee.{add, div, mul, of_int, sub}
use Rattle.std.specs.Float.{binary64, fin}
use Rattle.pitch.specs.declared.Base.{Base}
use Rattle.pitch.specs.declared.Base.TheVariants.{Number, Pitch725, Pitch79}
use Rattle.pitch.specs.Dyadic.{Dyadic, nearest, times2}
use Rattle.pitch.specs.Pitch.{centre, pitch_of, shown_as, float_of}

-- a base of 7 bits and a spare one, of 32 bits, of 16 bits
abbrev pub Held : Base → Type 0
Held (Number n) = n < 2 ^ 8
Held (Pitch725 w) = w < 2 ^ 32
Held (Pitch79 h) = h < 2 ^ 16

-- The shown pitch times 2 to the 31 is the whole number of the definition, for every base, bend and range: with nothing
-- left over, and by the float's own parts.
abbrev pub Exactness : Type 0
Exactness =
    (base : Base) (bend units : ℕ) → Held base → bend < 2 ^ 32 → units < 2 ^ 8
    → let x = float_of (Some (shown_as base (nearest 31 (pitch_of base bend units)))) in
    Dyadic 42 31 x (pitch_of base bend units) × (times2 31 x ≡ pitch_of base bend units)

-- a whole number as a float, and 2 ^ j
abbrev pub float : ℕ → Float
float n = of_int binary64 (pos n)

abbrev pub power2 : ℕ → Float
power2 j = fin false 1 (pos j)

-- Each operation gives its exact result, with the places and the digits that it has.
pub record Operations : Type 0 where
  -- the three bases
  pub number : (n : ℕ) → n < 2 ^ 8 → Dyadic 8 0 (float n) (pos n)
  pub pitch725 : (w : ℕ) → w < 2 ^ 32 → Dyadic 32 25 (div binary64 (float w) (power2 25)) (pos w)
  pub pitch79 : (h : ℕ) → h < 2 ^ 16 → Dyadic 16 9 (div binary64 (float h) (power2 9)) (pos h)
  -- the bend: less its start, divided, times the range
  pub bend : (b : ℕ) → b < 2 ^ 32 → Dyadic 32 0 (float b) (pos b)
  pub less : (x : Float) (z : ℤ) → Dyadic 32 0 x z → Dyadic 33 0 (sub binary64 x (power2 31)) (z -ℤ pos centre)
  pub divided : (x : Float) (z : ℤ) → Dyadic 33 0 x z → Dyadic 33 31 (div binary64 x (power2 31)) z
  pub ranged : (x : Float) (z : ℤ) (u : ℕ) → u < 2 ^ 8 → Dyadic 33 31 x z
      → Dyadic 41 31 (mul binary64 x (float u)) (z *ℤ pos u)
  -- the sum
  pub sum : (x y : Float) (p q : ℤ) → Dyadic 41 31 x p → Dyadic 41 31 y q
      → Dyadic 42 31 (add binary64 x y) (p +ℤ q)
