-- The bits of a number, one by one: setting one, clearing one, counting them, and the lowest. Assumes nothing.
use mathlib.Core.Path.{◌≡◌, refl, sym, ap, ap₂, ◌∙◌}
use mathlib.Core.Bool.{Bool, true, false, cond}
use mathlib.Core.Logic.{◌⊎◌, inl, inr, ⊎_elim}
use Prim.Native.Nat.{ℕ, zero, suc, ◌+◌, ◌-◌, ◌*◌, ◌/◌, ◌%◌, ◌^◌, ◌<◌}
use native.Mathlib.Nat.{mod-lt, mod-eq_of_lt, one-mul, zero-div, pow-suc, mod-one, add-zero, add-suc, eq-or-lt_of_le, le_of_suc-le-suc, zero-lt-suc}
use native.Mathlib.Numerals.{one-add}
use native.Mathlib.Omega.{arith}
use lib.Dec.{eqb}
use lib.Pow.{pow_pos, pow-lt, shl_exact, shr-shr, mod-pow-add}
use lib.Bits.{bit_and, bit_or, and_shr, and_mod, or_shr, or_mod, and_zero_r, or_zero_r}
use lib.Count.{ones, ones_cat, count_trailing_zeros, under}
use borrow.Author.Tests.{eq-eqb, ne_eqb}
use Rattle.keys.specs.Keys.{bit, with_bit, without, tally, least, or_key}
use Rattle.std.specs.Prelude.{Option, None, Some}

-- bit k of n, as a number
abbrev pub at : ℕ → ℕ → ℕ
at n k = n / 2 ^ k % 2

pub at_lt : (n k : ℕ) → at n k < 2
at_lt n k = mod-lt (n / 2 ^ k) (zero-lt-suc 1)

pub at_zero : (k : ℕ) → at 0 k ≡ 0
at_zero k = rw zero-div

-- the bits of n above the lowest are those of n / 2
pub at_suc : (n k : ℕ) → at n (suc k) ≡ at (n / 2) k
at_suc n k = ap (λ (x : ℕ). n / 2 ^ x % 2) (sym (one-add k)) ∙ ap (λ (x : ℕ). x % 2) (sym (shr-shr n 1 k))

pub or_at : (a b k : ℕ) → at (bit_or a b) k ≡ bit_or (at a k) (at b k)
or_at a b k = ap (λ (x : ℕ). x % 2) (or_shr a b k) ∙ or_mod (a / 2 ^ k) (b / 2 ^ k) 1

pub and_at : (a b k : ℕ) → at (bit_and a b) k ≡ bit_and (at a k) (at b k)
and_at a b k = ap (λ (x : ℕ). x % 2) (and_shr a b k) ∙ and_mod (a / 2 ^ k) (b / 2 ^ k) 1

-- 2 ^ k has the bit k and no other
pub pow-same : (k : ℕ) → at (2 ^ k) k ≡ 1
pow-same zero = refl
pow-same (suc k) = at_suc (2 ^ suc k) k ∙ ap (λ (x : ℕ). at x k) (omega (arith, pow-suc 2 k)) ∙ pow-same k

pub pow-other : (k j : ℕ) → (j ≡ k → ⊥) → at (2 ^ k) j ≡ 0
pow-other zero zero h = absurd (h refl)
pow-other zero (suc j) h = at_suc 1 j ∙ at_zero j
pow-other (suc k) zero h = omega (arith, pow-suc 2 k)
pow-other (suc k) (suc j) h =
    at_suc (2 ^ suc k) j ∙ ap (λ (x : ℕ). at x j) (omega (arith, pow-suc 2 k)) ∙ pow-other k j (λ e. h (ap suc e))

-- the bits of a complement within w bits
pub not_at : (w k a : ℕ) → k < w → a < 2 ^ w → at ((2 ^ w - 1) - a) k ≡ 1 - at a k
not_at zero k a h l = omega arith
not_at (suc w) zero a h l = omega (arith, pow-suc 2 w, pow_pos w)
not_at (suc w) (suc k) a h l =
    at_suc ((2 ^ suc w - 1) - a) k
    ∙ ap (λ (x : ℕ). at x k) (omega (arith, pow-suc 2 w, pow_pos w))
    ∙ not_at w k (a / 2) (omega arith) (omega (arith, pow-suc 2 w))
    ∙ ap (λ (x : ℕ). 1 - x) (sym (at_suc a k))

-- a number below 2 is its one bit
one_bit : (r : ℕ) → r < 2 → bit_or r 1 ≡ 1
one_bit zero h = refl
one_bit (suc zero) h = refl
one_bit (suc (suc r)) h = omega arith

pub keep-bit : (r : ℕ) → r < 2 → bit_and r 1 ≡ r
keep-bit zero h = refl
keep-bit (suc zero) h = refl
keep-bit (suc (suc r)) h = omega arith

ones_bit : (r : ℕ) → r < 2 → ones r ≡ r
unfolding ones
ones_bit zero h = refl
ones_bit (suc zero) h = refl
ones_bit (suc (suc r)) h = omega arith

-- `1 << k` of 64 bits
pub one_shl : (k : ℕ) → k < 64 → 1 * 2 ^ k % 2 ^ 64 ≡ 2 ^ k
one_shl k h = shl_exact {a = 1} 1 k 64 (omega arith) (omega arith) ∙ one-mul (2 ^ k)

-- ---- one bit set, one bit cleared

pub with-same : (n k : ℕ) → bit (with_bit n k) k ≡ true
unfolding bit with_bit
with-same n k = eq-eqb _ 1 (or_at n (2 ^ k) k ∙ ap (bit_or (at n k)) (pow-same k) ∙ one_bit (at n k) (at_lt n k))

pub with-other : (n k j : ℕ) → (j ≡ k → ⊥) → bit (with_bit n k) j ≡ bit n j
unfolding bit with_bit
with-other n k j h = ap (λ (x : ℕ). eqb x 1) (or_at n (2 ^ k) j ∙ ap (bit_or (at n j)) (pow-other k j h) ∙ or_zero_r (at n j))

pub without-same : (n k : ℕ) → k < 64 → bit (without n k) k ≡ false
unfolding bit without
without-same n k h =
    let e : at (bit_and n (2 ^ 64 - 1 - 2 ^ k)) k ≡ 0 =
    and_at n (2 ^ 64 - 1 - 2 ^ k) k ∙ ap (bit_and (at n k)) (not_at 64 k (2 ^ k) h (pow-lt h) ∙ ap (λ (x : ℕ). 1 - x) (pow-same k)) ∙ and_zero_r (at n k) in
    ap (λ (x : ℕ). eqb x 1) e

pub without_other : (n k j : ℕ) → k < 64 → j < 64 → (j ≡ k → ⊥) → bit (without n k) j ≡ bit n j
unfolding bit without
without_other n k j h l o =
    ap (λ (x : ℕ). eqb x 1)
    (and_at n (2 ^ 64 - 1 - 2 ^ k) j ∙ ap (bit_and (at n j)) (not_at 64 j (2 ^ k) l (pow-lt h) ∙ ap (λ (x : ℕ). 1 - x) (pow-other k j o)) ∙ keep-bit (at n j) (at_lt n j))

pub no-bit : (k : ℕ) → bit 0 k ≡ false
unfolding bit
no-bit k = ap (λ (x : ℕ). eqb x 1) (at_zero k)

-- ---- counting

cond-at : (r : ℕ) → r < 2 → cond (eqb r 1) 1 0 ≡ r
cond-at zero h = refl
cond-at (suc zero) h = refl
cond-at (suc (suc r)) h = omega arith

-- the ones of the lowest d bits
ones_below : (d n : ℕ) → ones (n % 2 ^ d) ≡ tally (bit n) d
unfolding bit tally ones
ones_below zero n = ap ones (mod-one n)
ones_below (suc d) n =
    ap (λ (x : ℕ). ones (n % 2 ^ x)) (sym (one-add d)) ∙ ap ones (mod-pow-add n 1 d)
    ∙ ones_cat d (at n d) (n % 2 ^ d) (mod-lt n (pow_pos d))
    ∙ ap₂ (λ (x y : ℕ). x + y) (ones_bit (at n d) (at_lt n d) ∙ sym (cond-at (at n d) (at_lt n d))) (ones_below d n)
    ∙ omega arith

pub ones-tally : (d n : ℕ) → n < 2 ^ d → ones n ≡ tally (bit n) d
ones-tally d n h = ap ones (sym (mod-eq_of_lt h)) ∙ ones_below d n

pub tally-ext : (p q : ℕ → Bool) (n : ℕ) → ((j : ℕ) → j < n → p j ≡ q j) → tally p n ≡ tally q n
unfolding tally
tally-ext p q zero h = refl
tally-ext p q (suc n) h =
    ap₂ (λ (x : ℕ) (b : Bool). x + cond b 1 0) (tally-ext p q n (λ j l. h j (omega arith))) (h n (omega arith))

pub tally-split : (p : ℕ → Bool) (m n : ℕ) → tally p (m + n) ≡ tally p m + tally (λ j. p (m + j)) n
unfolding tally
tally-split p m zero = ap (tally p) (add-zero m) ∙ sym (add-zero (tally p m))
tally-split p m (suc n) = ap (tally p) (add-suc m n) ∙ ap (λ (x : ℕ). x + cond (p (m + n)) 1 0) (tally-split p m n) ∙ omega arith

-- ---- the lowest

pub least-ext : (p q : ℕ → Bool) (n : ℕ) → ((j : ℕ) → j < n → p j ≡ q j) → least p n ≡ least q n
unfolding least
least-ext p q zero h = refl
least-ext p q (suc n) h =
    ap₂ (λ (x : Option ℕ) (b : Bool). or_key x (cond b (Some n) None)) (least-ext p q n (λ j l. h j (omega arith)))
    (h n (omega arith))

pub least-none : (p : ℕ → Bool) (n : ℕ) → ((j : ℕ) → j < n → p j ≡ false) → least p n ≡ None
unfolding least or_key
least-none p zero h = refl
least-none p (suc n) h =
    ap₂ (λ (x : Option ℕ) (b : Bool). or_key x (cond b (Some n) None)) (least-none p n (λ j l. h j (omega arith)))
    (h n (omega arith))

key-first : (p : ℕ → Bool) (k n : ℕ) → least p n ≡ Some k → least p (suc n) ≡ Some k
unfolding least or_key
key-first p k n h = ap (λ (x : Option ℕ). or_key x (cond (p n) (Some n) None)) h

-- a key that has p, below n, with none below it, is the least
pub least-key : (p : ℕ → Bool) (k n : ℕ) → k < n → p k ≡ true → ((j : ℕ) → j < k → p j ≡ false) → least p n ≡ Some k
unfolding least or_key
least-key p k zero l h o = absurd (omega arith)
least-key p k (suc n) l h o =
    ⊎_elim (λ (e : k ≡ n).
    ap₂ (λ (x : Option ℕ) (b : Bool). or_key x (cond b (Some n) None)) (least-none p n (λ j m. o j (omega arith)))
    (ap p (sym e) ∙ h) ∙ ap Some (sym e))
    (λ (m : k < n). key-first p k n (least-key p k n m h o))
    (eq-or-lt_of_le (le_of_suc-le-suc l))

-- what `least` found
unfoldable pub Found : (ℕ → Bool) → ℕ → Option ℕ → Type 0
Found p n None = (j : ℕ) → j < n → p j ≡ false
Found p n (Some k) = (k < n) × (p k ≡ true) × ((j : ℕ) → j < k → p j ≡ false)

found-next : (p : ℕ → Bool) (n : ℕ) (l : Option ℕ) (b : Bool) → p n ≡ b → Found p n l
    → Found p (suc n) (or_key l (cond b (Some n) None))
unfolding Found or_key
found-next p n None true e f = (omega arith, e, f)
found-next p n None false e f = λ j l. ⊎_elim (λ (q : j ≡ n). ap p q ∙ e) (λ (m : j < n). f j m) (eq-or-lt_of_le (le_of_suc-le-suc l))
found-next p n (Some k) b e f = (omega (arith, f.0), f.1, f.2)

pub found : (p : ℕ → Bool) (n : ℕ) → Found p n (least p n)
unfolding Found least
found p zero = λ j l. absurd (omega arith)
found p (suc n) = found-next p n (least p n) (p n) refl (found p n)

pub tally-zero : (p : ℕ → Bool) (n : ℕ) → ((j : ℕ) → j < n → p j ≡ false) → tally p n ≡ 0
unfolding tally
tally-zero p zero h = refl
tally-zero p (suc n) h = rw (tally-zero p n (λ j l. h j (omega arith)), h n (omega arith))

pub zero-tally : (p : ℕ → Bool) (n : ℕ) → tally p n ≡ 0 → (j : ℕ) → j < n → p j ≡ false
unfolding tally
zero-tally p zero h j l = absurd (omega arith)
zero-tally p (suc n) h j l =
    ⊎_elim (λ (q : j ≡ n). ap p q ∙ by (p n) (omega arith)) (λ (m : j < n). zero-tally p n (omega arith) j m) (eq-or-lt_of_le (le_of_suc-le-suc l))
  where
    by : (b : Bool) → ◌≡◌ {A = ℕ} (cond b 1 0) 0 → b ≡ false
    by true e = absurd (omega arith)
    by false e = refl

-- ---- trailing zeros

bit-suc : (n k : ℕ) → bit n (suc k) ≡ bit (n / 2) k
unfolding bit
bit-suc n k = ap (λ (x : ℕ). eqb x 1) (at_suc n k)

-- by the lowest digit
even-or-odd : (n : ℕ) → (n % 2 ≡ 0) ⊎ (n % 2 ≡ 1)
even-or-odd n = go (n % 2) (mod-lt n (zero-lt-suc 1))
  where
    go : (r : ℕ) → r < 2 → (r ≡ 0) ⊎ (r ≡ 1)
    go zero h = inl refl
    go (suc zero) h = inr refl
    go (suc (suc r)) h = absurd (omega arith)

tz-even : (d n : ℕ) → n % 2 ≡ 0 → count_trailing_zeros (suc d) n ≡ suc (count_trailing_zeros d (n / 2))
unfolding count_trailing_zeros
tz-even d n e = ap (λ (r : ℕ). under r (count_trailing_zeros d (n / 2))) e

tz_odd : (d n : ℕ) → n % 2 ≡ 1 → count_trailing_zeros (suc d) n ≡ 0
unfolding count_trailing_zeros
tz_odd d n e = ap (λ (r : ℕ). under r (count_trailing_zeros d (n / 2))) e

-- the bits below the trailing zeros' number are clear
even-clear : (n t i : ℕ) → n % 2 ≡ 0 → ((j : ℕ) → j < t → bit (n / 2) j ≡ false) → i < suc t → bit n i ≡ false
unfolding bit
even-clear n t zero e ih l = ne_eqb (n / 1 % 2) 1 (omega arith)
even-clear n t (suc i) e ih l = bit-suc n i ∙ ih i (omega arith)

pub tz-clear : (d n j : ℕ) → j < count_trailing_zeros d n → bit n j ≡ false
unfolding count_trailing_zeros
tz-clear zero n j h = absurd (omega arith)
tz-clear (suc d) n j h =
    ⊎_elim (λ (e : n % 2 ≡ 0). even-clear n (count_trailing_zeros d (n / 2)) j e (λ i l. tz-clear d (n / 2) i l) (rw (tz-even d n e) at h))
    (λ (e : n % 2 ≡ 1). absurd (omega (arith, tz_odd d n e))) (even-or-odd n)

-- the bit at their number is set, in a number that is not 0
pub tz-set : (d n : ℕ) → 0 < n → n < 2 ^ d → (count_trailing_zeros d n < d) × (bit n (count_trailing_zeros d n) ≡ true)
unfolding bit
tz-set zero n p h = absurd (omega arith)
tz-set (suc d) n p h =
    ⊎_elim (λ (e : n % 2 ≡ 0).
    let ih = tz-set d (n / 2) (omega arith) (omega (arith, pow-suc 2 d)) in
    (omega (arith, tz-even d n e, ih.0), ap (bit n) (tz-even d n e) ∙ bit-suc n (count_trailing_zeros d (n / 2)) ∙ ih.1))
    (λ (e : n % 2 ≡ 1). (omega (arith, tz_odd d n e), ap (bit n) (tz_odd d n e) ∙ eq-eqb (n / 1 % 2) 1 (omega arith)))
    (even-or-odd n)
