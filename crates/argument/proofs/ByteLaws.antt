-- The bytes of a row by its length. Assumes nothing.
use Prim.Native.Nat.{ℕ, ◌<◌, ◌≤◌}
use mathlib.Core.Path.{◌≡◌, refl}
use mathlib.Core.List.{List, [], ◌∷◌}
use native.Mathlib.Omega.{arith}
use lib.ListN.{get_or, length}
use Rattle.std.specs.Prelude.{None}
use Rattle.argument.specs.Argument.{number_in, two_digits}

pub one_byte : (s : List ℕ) → length s ≡ 1 → number_in s ≡ two_digits 48 (get_or s 0 0)
unfolding number_in
one_byte [] e = absurd (omega arith)
one_byte (a ∷ []) e = refl
one_byte (a ∷ b ∷ s) e = absurd (omega arith)

pub two_bytes : (s : List ℕ) → length s ≡ 2 → number_in s ≡ two_digits (get_or s 0 0) (get_or s 1 0)
unfolding number_in
two_bytes [] e = absurd (omega arith)
two_bytes (a ∷ []) e = absurd (omega arith)
two_bytes (a ∷ b ∷ []) e = refl
two_bytes (a ∷ b ∷ c ∷ s) e = absurd (omega arith)

pub no_byte : (s : List ℕ) → length s < 1 → None ≡ number_in s
unfolding number_in
no_byte [] p = refl
no_byte (a ∷ s) p = absurd (omega arith)

pub more_bytes : (s : List ℕ) → 3 ≤ length s → None ≡ number_in s
unfolding number_in
more_bytes [] p = absurd (omega arith)
more_bytes (a ∷ []) p = absurd (omega arith)
more_bytes (a ∷ b ∷ []) p = absurd (omega arith)
more_bytes (a ∷ b ∷ c ∷ s) p = refl
