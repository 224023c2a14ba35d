-- A row of records emptied: as many stay in the table, the row is empty, and every other record is as it was.
-- Assumes nothing.
use Prim.Native.Nat.{ℕ, zero, suc, ◌+◌, ◌-◌, ◌≤◌, ◌<◌, min}
use mathlib.Core.Path.{◌≡◌, refl, sym, ap, ◌∙◌}
use mathlib.Core.List.{List, [], ◌∷◌, ◌++◌}
use native.Mathlib.Omega.{arith}
use lib.Dec.{eqb, leb}
use lib.ListN.{drop, get_or, length, length-drop, length-set, length-take, set, take}
use lib.Seq.{get_or-set_other, length-take-le, set-append_left, set_out}
use borrow.Rule.Slice.PartMut.{mid_of, post_of, put_mid, put_same}
use Rattle.std.proofs.lemmas.List.{set-append_right}
use borrow.Author.Tests.{eqb-false, eqb-true, leb-false, leb-true}
use Rattle.ground.proofs.Cases.{by_bool}
use Rattle.channel.specs.declared.Record.{Record}
use Rattle.channel.specs.Record.{empty}
use Rattle.handover.specs.Handover.{emptied}

-- what stands for a missing element is read where it was stored, and past the end
get_or-set-missing : {A : Type 0} (l : List A) (i : ℕ) (d : A) → get_or (set l i d) i d ≡ d
get_or-set-missing [] i d = refl
get_or-set-missing (x ∷ xs) zero d = refl
get_or-set-missing (x ∷ xs) (suc i) d = get_or-set-missing xs i d

module _ (t : List Record) (k : ℕ) where
  pub emptied-none : emptied t k 0 ≡ t
  unfolding emptied
  emptied-none = refl

  pub emptied-more : (n : ℕ) → set (emptied t k n) (k + n) empty ≡ emptied t k (suc n)
  unfolding emptied
  emptied-more n = refl

  pub length-emptied : (n : ℕ) → length (emptied t k n) ≡ length t
  unfolding emptied
  length-emptied zero = refl
  length-emptied (suc n) = length-set (emptied t k n) (k + n) empty ∙ length-emptied n

  -- only those that there are can be emptied
  pub emptied-room : (n : ℕ) → emptied t k (min n (length t - k)) ≡ emptied t k n
  unfolding emptied
  emptied-room zero = ap (emptied t k) {x = min 0 (length t - k)} {y = 0} (omega arith)
  emptied-room (suc n) =
      by_bool (leb (suc n) (length t - k))
      (λ e. let h = leb-true (suc n) (length t - k) e in
      ap (emptied t k) {x = min (suc n) (length t - k)} {y = suc n} (omega (arith, h)))
      (λ e. let h = leb-false (suc n) (length t - k) e in
      let l = length-emptied n in
      ap (emptied t k) {x = min (suc n) (length t - k)} {y = min n (length t - k)} (omega (arith, h)) ∙ emptied-room n
      ∙ sym (set_out (emptied t k n) (k + n) empty (omega (arith, h, l))))

  -- so a walk from the first place on empties them one after the other
  pub emptied-start : t ≡ emptied t k (k - k)
  emptied-start = sym emptied-none ∙ ap (emptied t k) {x = 0} {y = k - k} (omega arith)

  pub emptied-next : (ys : List Record) (i : ℕ) → k ≤ i → ys ≡ emptied t k (i - k) → (r : Record) → r ≡ empty
      → set ys i r ≡ emptied t k (i + 1 - k)
  emptied-next ys i h e r f =
      rw (e, f)
      (ap (λ (n : ℕ). set (emptied t k (i - k)) n empty) {x = i} {y = k + (i - k)} (omega (arith, h))
      ∙ emptied-more (i - k) ∙ ap (emptied t k) {x = suc (i - k)} {y = i + 1 - k} (omega (arith, h)))

  pub emptied-end : (ys : List Record) (i c : ℕ) → i ≡ k + min c (length t - k) → ys ≡ emptied t k (i - k)
      → ys ≡ emptied t k c
  emptied-end ys i c h e =
      e ∙ ap (emptied t k) {x = i - k} {y = min c (length t - k)} (omega (arith, h)) ∙ emptied-room c

  pub emptied-inside : (n i : ℕ) → k ≤ i → i < k + n → get_or (emptied t k n) i empty ≡ empty
  unfolding emptied
  emptied-inside zero i a b = absurd (omega (arith, a, b))
  emptied-inside (suc n) i a b =
      by_bool (eqb i (k + n))
      (λ e. rw (eqb-true i (k + n) e) (get_or-set-missing (emptied t k n) (k + n) empty))
      (λ e. let h = eqb-false i (k + n) e in
      get_or-set_other (emptied t k n) (k + n) i empty empty h ∙ emptied-inside n i a (omega (arith, a, b, h)))

  pub emptied-outside : (n i : ℕ) → (k ≤ i → i < k + n → ⊥) → get_or (emptied t k n) i empty ≡ get_or t i empty
  unfolding emptied
  emptied-outside zero i h = refl
  emptied-outside (suc n) i h =
      get_or-set_other (emptied t k n) (k + n) i empty empty (λ e. h (omega (arith, e)) (omega (arith, e)))
      ∙ emptied-outside n i (λ a b. h a (omega (arith, b)))

-- emptying the first records of a part is emptying them from where the part begins
pub emptied-part : (t : List Record) (i n : ℕ) → i + n ≤ length t → (m : ℕ) → m ≤ n
    → put_mid i n t (emptied (mid_of i n t) 0 m) ≡ emptied t i m
unfolding emptied
emptied-part t i n inside zero h = put_same i n t
emptied-part t i n inside (suc m) h =
    let row = emptied (mid_of i n t) 0 m in
    let rest = post_of i n t in
    let long : m < length row = omega (
      arith,
      h,
      inside,
      length-emptied (mid_of i n t) 0 m,
      length-take n (drop i t),
      length-drop i t,
    ) in
    let here : set (row ++ rest) m empty ≡ set row m empty ++ rest = set-append_left row rest m empty long in
    let there = set-append_right (take i t) (row ++ rest) i (i + m) empty
    (length-take-le i t (omega (arith, inside))) (omega arith) in
    let same : i + m - i ≡ m = omega arith in
    ap (λ (k : ℕ). take i t ++ (set row k empty ++ rest)) {x = 0 + m} {y = m} (omega arith)
    ∙ sym (ap (λ (z : List Record). take i t ++ z) here) ∙ sym (rw same at there)
    ∙ ap (λ (l : List Record). set l (i + m) empty) (emptied-part t i n inside m (omega (arith, h)))
