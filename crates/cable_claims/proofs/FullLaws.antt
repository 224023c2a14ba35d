-- Bytes written out in full, by what the next byte is. Assumes nothing.
use Prim.Native.Nat.{ℕ, ◌-◌, ◌≤◌, ◌<◌}
use mathlib.Core.Path.{◌≡◌}
use mathlib.Core.Bool.{true}
use mathlib.Core.List.{List, ◌∷◌}
use native.Mathlib.Omega.{arith}
use lib.Dec.{leb}
use borrow.Author.Tests.{le-leb, lt-leb, ne_eqb}
use Rattle.cable.specs.State.{need, pick}
use Rattle.cable_claims.specs.RunningStatus.{in_full}

module _ (r k b : ℕ) (bs : List ℕ) where
  pub full-real : leb 0xF8 b ≡ true → in_full r k (b ∷ bs) ≡ b ∷ in_full r k bs
  unfolding in_full pick
  full-real h = rw h

  pub full-system : 0xF0 ≤ b → b < 0xF8 → in_full r k (b ∷ bs) ≡ b ∷ in_full 0 0 bs
  unfolding in_full pick
  full-system lo hi = rw (lt-leb 0xF8 b hi, le-leb 0xF0 b lo)

  pub full-voice : 0x80 ≤ b → b < 0xF0 → in_full r k (b ∷ bs) ≡ b ∷ in_full b (need b) bs
  unfolding in_full pick
  full-voice lo hi = rw (lt-leb 0xF8 b (omega arith), lt-leb 0xF0 b hi, le-leb 0x80 b lo)

  module _ (h : b < 0x80) where
    pub full-none : r ≡ 0 → in_full r k (b ∷ bs) ≡ b ∷ in_full 0 0 bs
    unfolding in_full pick
    full-none e = rw (lt-leb 0xF8 b (omega arith), lt-leb 0xF0 b (omega arith), lt-leb 0x80 b h, e)

    pub full-first : 0x80 ≤ r → k ≡ 0 → in_full r k (b ∷ bs) ≡ r ∷ b ∷ in_full r (need r - 1) bs
    unfolding in_full pick
    full-first v e =
        rw (
          lt-leb 0xF8 b (omega arith),
          lt-leb 0xF0 b (omega arith),
          lt-leb 0x80 b h,
          ne_eqb r 0 (λ z. omega arith),
          e,
        )

    pub full-more : 0x80 ≤ r → 1 ≤ k → in_full r k (b ∷ bs) ≡ b ∷ in_full r (k - 1) bs
    unfolding in_full pick
    full-more v e =
        rw (
          lt-leb 0xF8 b (omega arith),
          lt-leb 0xF0 b (omega arith),
          lt-leb 0x80 b h,
          ne_eqb r 0 (λ z. omega arith),
          ne_eqb k 0 (λ z. omega arith),
        )
