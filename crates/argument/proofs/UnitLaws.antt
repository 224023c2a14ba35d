-- The bytes of a range by their number. Assumes nothing.
use Prim.Native.Nat.{ℕ, ◌<◌, ◌≤◌}
use mathlib.Core.Path.{◌≡◌, refl}
use mathlib.Core.List.{List, [], ◌∷◌}
use native.Mathlib.Omega.{arith}
use lib.ListN.{get_or, length}
use Rattle.std.specs.Prelude.{None}
use Rattle.argument.specs.Units.{of_three, units_in}

pub one_byte : (s : List ℕ) → length s ≡ 1 → units_in s ≡ of_three 48 48 (get_or s 0 0)
unfolding units_in
one_byte [] e = absurd (omega arith)
one_byte (a ∷ []) e = refl
one_byte (a ∷ b ∷ s) e = absurd (omega arith)

pub two_bytes : (s : List ℕ) → length s ≡ 2 → units_in s ≡ of_three 48 (get_or s 0 0) (get_or s 1 0)
unfolding units_in
two_bytes [] e = absurd (omega arith)
two_bytes (a ∷ []) e = absurd (omega arith)
two_bytes (a ∷ b ∷ []) e = refl
two_bytes (a ∷ b ∷ c ∷ s) e = absurd (omega arith)

pub three_bytes : (s : List ℕ) → length s ≡ 3 → units_in s ≡ of_three (get_or s 0 0) (get_or s 1 0) (get_or s 2 0)
unfolding units_in
three_bytes [] e = absurd (omega arith)
three_bytes (a ∷ []) e = absurd (omega arith)
three_bytes (a ∷ b ∷ []) e = absurd (omega arith)
three_bytes (a ∷ b ∷ c ∷ []) e = refl
three_bytes (a ∷ b ∷ c ∷ d ∷ s) e = absurd (omega arith)

pub no_byte : (s : List ℕ) → length s < 1 → None ≡ units_in s
unfolding units_in
no_byte [] p = refl
no_byte (a ∷ s) p = absurd (omega arith)

pub more_bytes : (s : List ℕ) → 4 ≤ length s → None ≡ units_in s
unfolding units_in
more_bytes [] p = absurd (omega arith)
more_bytes (a ∷ []) p = absurd (omega arith)
more_bytes (a ∷ b ∷ []) p = absurd (omega arith)
more_bytes (a ∷ b ∷ c ∷ []) p = absurd (omega arith)
more_bytes (a ∷ b ∷ c ∷ d ∷ s) p = refl
