-- Stores one after another: the stores of two rows are those of the one and then of the other; and what a row of stores
-- leaves alone. Assumes nothing.
use Prim.Native.Nat.{ℕ, suc, ◌+◌, ◌≤◌, ◌<◌, min}
use mathlib.Core.Path.{◌≡◌, refl, sym, ap, ◌∙◌}
use mathlib.Core.Bool.{Bool, true, false}
use mathlib.Core.List.{List, [], ◌∷◌, ◌++◌}
use native.Mathlib.Omega.{arith}
use native.Mathlib.Nat.{add-zero}
use native.Mathlib.Numerals.{add-one}
use lib.Dec.{leb}
use lib.ListN.{length, get_or, set, take}
use borrow.Author.Tests.{leb-false, leb-true}
use lib.Seq.{get_or-set_other, length-take-le, set_comm, sets, take_all, take-suc}

module _ {A : Type 0} where
  pub sets-append : (l : List A) (i : ℕ) (xs ys : List A) → sets l i (xs ++ ys) ≡ sets (sets l i xs) (i + length xs) ys
  sets-append l i [] ys = rw add-zero
  sets-append l i (x ∷ xs) ys =
      let e : suc i + length xs ≡ i + suc (length xs) = omega arith in
      sets-append (set l i x) (suc i) xs ys ∙ ap (λ (k : ℕ). sets (sets (set l i x) (suc i) xs) k ys) e

  -- a store before the first of a row may as well come first
  pub set-sets : (l : List A) (i j : ℕ) (v : A) (xs : List A) → j < i → set (sets l i xs) j v ≡ sets (set l j v) i xs
  set-sets l i j v [] h = refl
  set-sets l i j v (x ∷ xs) h =
      set-sets (set l i x) (suc i) j v xs (omega arith)
      ∙ ap (λ (m : List A). sets m (suc i) xs) (set_comm l i j x v (λ e. omega (arith, e)))

  -- what stands after a row of stores stays
  pub get_d_sets : (l : List A) (i : ℕ) (xs : List A) (j : ℕ) (d : A) → i + length xs ≤ j
      → get_or (sets l i xs) j d ≡ get_or l j d
  get_d_sets l i [] j d h = refl
  get_d_sets l i (x ∷ xs) j d h =
      get_d_sets (set l i x) (suc i) xs j d (omega arith) ∙ get_or-set_other l i j x d (λ e. omega (arith, e))

  -- the loop that stores a row from the front: one more element
  pub sets_more : (l xs : List A) (i : ℕ) (d : A) → i < length xs
      → set (sets l 0 (take i xs)) i (get_or xs i d) ≡ sets l 0 (take (i + 1) xs)
  sets_more l xs i d h =
      let n : 0 + length (take i xs) ≡ i = omega (arith, length-take-le i xs (omega arith)) in
      rw (add-one i, take-suc xs i d h, sets-append l 0 (take i xs) (get_or xs i d ∷ []), n)

  -- the first elements, as many as there are
  pub take-least : (m i : ℕ) (l : List A) → i ≡ min m (length l) → take i l ≡ take m l
  take-least m i l e = go (leb m (length l)) refl
    where
      go : (b : Bool) → leb m (length l) ≡ b → take i l ≡ take m l
      go true h = ap (λ (k : ℕ). take k l) {x = i} {y = m} (omega (arith, leb-true m (length l) h))
      go false h =
          let k = leb-false m (length l) h in
          take_all i l (omega arith) ∙ sym (take_all m l (omega arith))
