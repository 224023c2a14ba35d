-- What the bytes of a voice message do, one by one, with any running status beside it. Assumes nothing.
use mathlib.Core.Path.{◌≡◌, refl}
use mathlib.Core.Bool.{Bool, true, false, cond, ◌&&◌}
use mathlib.Core.Logic.{◌⊎◌, inl, inr}
use mathlib.Core.List.{[], ◌∷◌}
use Prim.Native.Nat.{ℕ, ◌≤◌, ◌<◌}
use native.Mathlib.Omega.{arith}
use lib.Dec.{eqb, leb, ltb}
use borrow.Author.Tests.{le-ltb, lt-leb, lt-ltb, ne_eqb}
use Rattle.cable.specs.State.{holding, idle, message_word, need, pick}
use Rattle.cable.specs.Hearing.{byte_in, data_in, first_in, message_in, sending, status_in, takes}

module _ (g st : ℕ) (lo : 0x80 ≤ st) (hi : st < 0xF0) where
  not_none : eqb st 0 ≡ false
  not_none = ne_eqb st 0 (λ e. omega arith)

  not-open : eqb st 0xF0 ≡ false
  not-open = ne_eqb st 0xF0 (λ e. omega arith)

  pub status-in : (r : ℕ) → byte_in (idle r) g st ≡ takes (holding 0 st 0 [])
  unfolding byte_in status_in pick
  status-in r =
      rw (
        lt-leb 0xF8 st (omega arith),
        le-ltb st 0x80 lo,
        not-open,
        ne_eqb st 0xF6 (λ e. omega arith),
        lt-leb 0xF4 st (omega arith),
      )

  module _ (r x : ℕ) (small : x ≤ 127) where
    pub first-in : need st ≡ 2 → byte_in (holding r st 0 []) g x ≡ takes (holding r st 0 (x ∷ []))
    unfolding byte_in data_in message_in first_in pick
    first-in n = rw (lt-leb 0xF8 x (omega arith), lt-ltb x 0x80 (omega arith), not-open, not_none, not_none, n)

    pub only-in : need st ≡ 1 → byte_in (holding r st 0 []) g x ≡ sending (message_word g st x 0 ∷ []) (idle st)
    unfolding byte_in data_in message_in first_in pick
    only-in n =
        rw (
          lt-leb 0xF8 x (omega arith),
          lt-ltb x 0x80 (omega arith),
          not-open,
          not_none,
          not_none,
          n,
          lt-ltb st 0xF0 hi,
        )

    pub last-in : (y : ℕ) → y ≤ 127
        → byte_in (holding r st 0 (x ∷ [])) g y ≡ sending (message_word g st x y ∷ []) (idle st)
    unfolding byte_in data_in message_in first_in pick
    last-in y k =
        rw (
          lt-leb 0xF8 y (omega arith),
          lt-ltb y 0x80 (omega arith),
          not-open,
          not_none,
          not_none,
          lt-ltb st 0xF0 hi,
        )

  -- C and D have one data byte, the others two
  pub need-ways : (need st ≡ 1) ⊎ (need st ≡ 2)
  unfolding need
  need-ways =
      rw (
        ne_eqb st 0xF2 (λ e. omega arith),
        ne_eqb st 0xF1 (λ e. omega arith),
        ne_eqb st 0xF3 (λ e. omega arith),
        lt-leb 0xF0 st hi,
      )
      (way (leb 0xC0 st && ltb st 0xE0))
    where
      way : (t : Bool) → (◌≡◌ {A = ℕ} (cond t 1 2) 1) ⊎ (◌≡◌ {A = ℕ} (cond t 1 2) 2)
      way true = inl refl
      way false = inr refl
