-- What a press, a release, a count and the lowest say of the keys that are down. Assumes nothing.
use mathlib.Core.Path.{◌≡◌, refl, sym, ap, ap₂, ◌∙◌, subst}
use mathlib.Core.Bool.{Bool, true, false, cond}
use Prim.Native.Nat.{ℕ, ◌+◌, ◌-◌, ◌%◌, ◌^◌, ◌≤◌, ◌<◌}
use native.Mathlib.Nat.{add-sub_cancel_left, mod-eq_of_lt}
use native.Mathlib.Omega.{arith}
use lib.Dec.{ltb}
use lib.Count.{ones, count_trailing_zeros}
use borrow.Author.Tests.{lt-ltb, le-ltb, ltb-true, ltb-false}
use Rattle.keys.specs.Keys.{bit, down, empty_keys, changed, pressed, released, with_bit, without, tally, least}
use Rattle.keys.specs.declared.Keys.{Keys}
use Rattle.std.specs.Prelude.{None, Some}
use Rattle.keys.specs.History.{Single, Lowests}
use Rattle.keys.proofs.Bit.{with-same, with-other, without-same, without_other, no-bit, ones-tally, tally-ext, tally-split, least-none, least-key, tz-clear, tz-set, Found, found, tally-zero, zero-tally}

-- the two halves, and above them
pub low-key : (s : Keys) (k : ℕ) → k < 64 → down s k ≡ bit s.low k
unfolding down
low-key s k h = simp (lt-ltb k 64 h)

pub high-key : (s : Keys) (k : ℕ) → 64 ≤ k → k < 128 → down s k ≡ bit s.high (k - 64)
unfolding down
high-key s k h l = simp (le-ltb k 64 h, lt-ltb k 128 l)

pub no_key : (s : Keys) (k : ℕ) → 128 ≤ k → down s k ≡ false
unfolding down
no_key s k h = simp (le-ltb k 64 (omega arith), le-ltb k 128 h)

-- where a key lies
data Place (k : ℕ) : Type 0 where
  in_low : k < 64 → Place k
  in_high : 64 ≤ k → k < 128 → Place k
  nowhere : 128 ≤ k → Place k

place : (k : ℕ) → Place k
place k = by (ltb k 64) (ltb k 128) refl refl
  where
    by : (a b : Bool) → ltb k 64 ≡ a → ltb k 128 ≡ b → Place k
    by true b e f = in_low (ltb-true k 64 e)
    by false true e f = in_high (ltb-false k 64 e) (ltb-true k 128 f)
    by false false e f = nowhere (ltb-false k 128 f)

module _ (f : ℕ → ℕ → ℕ) (s : Keys) (k : ℕ) where
  pub in-low : k < 64 → changed f s k ≡ record { low = f s.low k; high = s.high }
  unfolding changed
  in-low h = simp (lt-ltb k 64 h)

  pub in-high : 64 ≤ k → k < 128 → changed f s k ≡ record { low = s.low; high = f s.high (k - 64) }
  unfolding changed
  in-high h l = simp (le-ltb k 64 h, lt-ltb k 128 l)

  pub out_of_range_lem : 128 ≤ k → changed f s k ≡ s
  unfolding changed
  out_of_range_lem h = simp (le-ltb k 64 (omega arith), le-ltb k 128 h)

-- The half of a key is changed in its place, and the other stays.
pub low-with-key : (s : Keys) (k old half : ℕ) (d : Bool) → k < 64 → old ≡ s.low
    → half ≡ cond d (with_bit old (k % 64)) (without old (k % 64))
    → record { low = half; high = s.high } ≡ cond d (pressed s k) (released s k)
low-with-key s k old half true h o e = rw (e, o, mod-eq_of_lt h) (sym (in-low with_bit s k h))
low-with-key s k old half false h o e = rw (e, o, mod-eq_of_lt h) (sym (in-low without s k h))

pub high-with-key : (s : Keys) (k old half : ℕ) (d : Bool) → 64 ≤ k → k < 128 → old ≡ s.high
    → half ≡ cond d (with_bit old (k % 64)) (without old (k % 64))
    → record { low = s.low; high = half } ≡ cond d (pressed s k) (released s k)
high-with-key s k old half true h l o e =
    let m : k % 64 ≡ k - 64 = omega arith in rw (e, o, m) (sym (in-high with_bit s k h l))
high-with-key s k old half false h l o e =
    let m : k % 64 ≡ k - 64 = omega arith in rw (e, o, m) (sym (in-high without s k h l))

-- a number above 127 is no key
pub no-such-key : (s : Keys) (k : ℕ) (d : Bool) → 127 < k → s ≡ cond d (pressed s k) (released s k)
no-such-key s k true m = sym (out_of_range_lem with_bit s k m)
no-such-key s k false m = sym (out_of_range_lem without s k m)

-- what f does to the bit k itself is done to the key k
changed-same : (f : ℕ → ℕ → ℕ) (v : Bool) → ((n k : ℕ) → k < 64 → bit (f n k) k ≡ v) → (s : Keys) (k : ℕ) → k < 128 → down (changed f s k) k ≡ v
changed-same f v g s k m = by (place k)
  where
    by : Place k → down (changed f s k) k ≡ v
    by (in_low h) = rw (in-low f s k h, low-key _ k h) (g s.low k h)
    by (in_high h l) = rw (in-high f s k h l, high-key _ k h l) (g s.high (k - 64) (omega arith))
    by (nowhere h) = absurd (omega arith)

-- where f leaves the other bits alone, the other keys stay
changed-other : (f : ℕ → ℕ → ℕ) → ((n k j : ℕ) → k < 64 → j < 64 → (j ≡ k → ⊥) → bit (f n k) j ≡ bit n j)
    → (s : Keys) (k j : ℕ) → (j ≡ k → ⊥) → down (changed f s k) j ≡ down s j
changed-other f g s k j o = by (place k) (place j)
  where
    by : Place k → Place j → down (changed f s k) j ≡ down s j
    by (nowhere h) p = ap (λ (x : Keys). down x j) (out_of_range_lem f s k h)
    by (in_low h) (in_low h') = rw (in-low f s k h, low-key _ j h', low-key s j h') (g s.low k j h h' o)
    by (in_low h) (in_high h' l') = rw (in-low f s k h, high-key _ j h' l', high-key s j h' l')
    by (in_low h) (nowhere h') = no_key _ j h' ∙ sym (no_key s j h')
    by (in_high h l) (in_low h') = rw (in-high f s k h l, low-key _ j h', low-key s j h')
    by (in_high h l) (in_high h' l') = rw (in-high f s k h l, high-key _ j h' l', high-key s j h' l') (g s.high (k - 64) (j - 64) (omega arith) (omega arith) (omega arith))
    by (in_high h l) (nowhere h') = no_key _ j h' ∙ sym (no_key s j h')

-- a press sets its own key and no other; a release clears its own and no other; none is down in an empty one
pub press_same : (s : Keys) (k : ℕ) → k < 128 → down (pressed s k) k ≡ true
press_same = changed-same with_bit true (λ n k h. with-same n k)

pub press_other : (s : Keys) (k j : ℕ) → (j ≡ k → ⊥) → down (pressed s k) j ≡ down s j
press_other = changed-other with_bit (λ n k j h l o. with-other n k j o)

pub release_same : (s : Keys) (k : ℕ) → k < 128 → down (released s k) k ≡ false
release_same = changed-same without false without-same

pub release_other : (s : Keys) (k j : ℕ) → (j ≡ k → ⊥) → down (released s k) j ≡ down s j
release_other = changed-other without without_other

pub empty_none : (k : ℕ) → down empty_keys k ≡ false
empty_none k = by (place k)
  where
    by : Place k → down empty_keys k ≡ false
    by (in_low h) = low-key empty_keys k h ∙ no-bit k
    by (in_high h l) = high-key empty_keys k h l ∙ no-bit (k - 64)
    by (nowhere h) = no_key empty_keys k h

-- ---- the count and the lowest, of two halves of 64 bits

module _ (s : Keys) (hl : s.low < 2 ^ 64) (hh : s.high < 2 ^ 64) where
  pub counted : ones s.low + ones s.high ≡ tally (down s) 128
  counted =
      ap₂ (λ (x y : ℕ). x + y)
      (ones-tally 64 s.low hl ∙ tally-ext _ _ 64 (λ j l. sym (low-key s j l)))
      (ones-tally 64 s.high hh ∙ tally-ext _ _ 64 (λ j l. sym (up j l)))
      ∙ sym (tally-split (down s) 64 64)
    where
      up : (j : ℕ) → j < 64 → down s (64 + j) ≡ bit s.high j
      up j l = high-key s (64 + j) (omega arith) (omega arith) ∙ ap (bit s.high) (omega arith)

  pub lowest-low : (s.low ≡ 0 → ⊥) → least (down s) 128 ≡ Some (count_trailing_zeros 64 s.low)
  lowest-low o =
      let t = tz-set 64 s.low (omega arith) hl in
      least-key (down s) (count_trailing_zeros 64 s.low) 128 (omega (arith, t.0)) (low-key s _ t.0 ∙ t.1)
      (λ j l. low-key s j (omega (arith, t.0)) ∙ tz-clear 64 s.low j l)

  none-low : s.low ≡ 0 → (j : ℕ) → j < 64 → down s j ≡ false
  none-low e j l = low-key s j l ∙ ap (λ (x : ℕ). bit x j) e ∙ no-bit j

  pub lowest-high : s.low ≡ 0 → (s.high ≡ 0 → ⊥) → least (down s) 128 ≡ Some (64 + count_trailing_zeros 64 s.high)
  lowest-high e o =
      let t = tz-set 64 s.high (omega arith) hh in
      least-key (down s) (64 + count_trailing_zeros 64 s.high) 128 (omega (arith, t.0))
      (high-key s _ (omega arith) (omega (arith, t.0)) ∙ ap (bit s.high) (add-sub_cancel_left 64 _) ∙ t.1)
      (λ j l. below (place j) t.0 l)
    where
      below : {j : ℕ} → Place j → count_trailing_zeros 64 s.high < 64 → j < 64 + count_trailing_zeros 64 s.high → down s j ≡ false
      below {j} (in_low h) m l = none-low e j h
      below {j} (in_high h h') m l = high-key s j h h' ∙ tz-clear 64 s.high (j - 64) (omega arith)
      below {j} (nowhere h) m l = absurd (omega arith)

  pub lowest-none : s.low ≡ 0 → s.high ≡ 0 → least (down s) 128 ≡ None
  lowest-none e f = least-none (down s) 128 (λ j l. by (place j))
    where
      by : {j : ℕ} → Place j → down s j ≡ false
      by {j} (in_low h) = none-low e j h
      by {j} (in_high h l) = high-key s j h l ∙ ap (λ (x : ℕ). bit x (j - 64)) f ∙ no-bit (j - 64)
      by {j} (nowhere h) = no_key s j h

pub single : Single
single = record {
  press_same = press_same;
  press_other = press_other;
  release_same = release_same;
  release_other = release_other;
  empty_none = empty_none;
  above_none = no_key;
}

pub lowests : Lowests
unfolding Found
lowests = record {
  is_down = λ s k e. (subst (Found (down s) 128) e (found (down s) 128)).1;
  is_least = λ s k j e l. (subst (Found (down s) 128) e (found (down s) 128)).2 j l;
  none_zero = λ s e. tally-zero (down s) 128 (subst (Found (down s) 128) e (found (down s) 128));
  zero_none = λ s e. least-none (down s) 128 (zero-tally (down s) 128 e);
}
