-- A buffer with another part: it is as long, that part is the new one, and the others and the rest are as they were.
-- Assumes nothing.
use Prim.Native.Nat.{ℕ, ◌+◌, ◌*◌, ◌/◌, ◌-◌, ◌≤◌, ◌<◌}
use mathlib.Core.Path.{◌≡◌, refl, sym, ap, ◌∙◌}
use mathlib.Core.List.{List, ◌++◌, append_assoc}
use mathlib.Core.Logic.{◌⊎◌, inl, inr}
use native.Mathlib.Omega.{arith}
use native.Mathlib.Nat.{add-mul, mul-le-mul_right}
use mathlib.Core.Bool.{Bool, true, false}
use lib.Dec.{ltb}
use borrow.Author.Tests.{ltb-false, ltb-true}
use lib.ListN.{length, take, drop, length-append, length-drop, take-append-drop}
use lib.Seq.{drop-append-add, drop-append-le, drop_at, drop-drop, length-take-le, take-append-le, take_at}
use Rattle.chains.specs.Collect.{part_at, share, with_part}
use Rattle.chains.proofs.CollectLaws.{part_end}

-- a part that ends within the first list
within : (m n : ℕ) (xs ys : List ℕ) → m + n ≤ length xs → take n (drop m (xs ++ ys)) ≡ take n (drop m xs)
within m n xs ys h =
    let k : n ≤ length (drop m xs) = omega (arith, length-drop m xs) in
    rw (drop-append-le m xs ys (omega arith)) (take-append-le n (drop m xs) ys k)

-- one part ends before the next begins
pub before : (j k n : ℕ) → j < k → j * n + n ≤ k * n
before j k n h =
    let m : (j + 1) * n ≤ k * n = mul-le-mul_right n (omega arith) in
    omega (arith, add-mul j 1 n)

side : (j k : ℕ) → (j ≡ k → ⊥) → (j < k) ⊎ (k < j)
side j k ne = go (ltb j k) refl
  where
    go : (t : Bool) → ltb j k ≡ t → (j < k) ⊎ (k < j)
    go true e = inl (ltb-true j k e)
    go false e = inr (omega (arith, ltb-false j k e))

module _ (j : ℕ) (q b : List ℕ) (low : j < 32) (size : length q ≡ share b) where
  front : length (take (j * share b) b ++ q) ≡ j * share b + share b
  front =
      length-append (take (j * share b) b) q
      ∙ omega (arith, length-take-le (j * share b) b (omega (arith, part_end j (length b) low)))

  -- what stands from a place after the part on
  pub drop-with : (m : ℕ) → j * share b + share b ≤ m → drop m (with_part j q b) ≡ drop m b
  drop-with m h =
      let e = j * share b + share b in
      let n : m ≡ length (take (j * share b) b ++ q) + (m - e) = omega (arith, front) in
      let d : e + (m - e) ≡ m = omega arith in
      ap (λ (l : List ℕ). drop m l) (sym (append_assoc (take (j * share b) b) q (drop e b)))
      ∙ ap (λ (k : ℕ). drop k (take (j * share b) b ++ q ++ drop e b)) n
      ∙ drop-append-add (take (j * share b) b ++ q) (drop e b) (m - e)
      ∙ drop-drop (m - e) e b
      ∙ ap (λ (k : ℕ). drop k b) d

  pub length-with : length (with_part j q b) ≡ length b
  length-with =
      let e = j * share b + share b in
      ap length (sym (append_assoc (take (j * share b) b) q (drop e b)))
      ∙ length-append (take (j * share b) b ++ q) (drop e b)
      ∙ omega (arith, front, length-drop e b, part_end j (length b) low)

  share-with : share (with_part j q b) ≡ share b
  share-with = ap (λ (n : ℕ). n / 32) length-with

  pub part_same : part_at j (with_part j q b) ≡ q
  part_same =
      let a = take (j * share b) b in
      let n : length a ≡ j * share b = length-take-le (j * share b) b (omega (arith, part_end j (length b) low)) in
      rw share-with
      (ap (λ (l : List ℕ). take (share b) l) (drop_at a (q ++ drop (j * share b + share b) b) (j * share b) n)
      ∙ take_at q (drop (j * share b + share b) b) (share b) size)

  pub part-other : (k : ℕ) → k < 32 → (j ≡ k → ⊥) → part_at k (with_part j q b) ≡ part_at k b
  part-other k h ne = rw share-with (go (side j k ne))
    where
      go : (j < k) ⊎ (k < j) → take (share b) (drop (k * share b) (with_part j q b))
          ≡ take (share b) (drop (k * share b) b)
      go (inl l) = ap (λ (x : List ℕ). take (share b) x) (drop-with (k * share b) (before j k (share b) l))
      go (inr l) =
          let a = take (j * share b) b in
          let n : k * share b + share b ≤ length a = omega (
            arith,
            length-take-le (j * share b) b (omega (
              arith,
              part_end j (length b) low,
            )),
            before k j (share b) l,
          ) in
          within (k * share b) (share b) a (q ++ drop (j * share b + share b) b) n
          ∙ sym (within (k * share b) (share b) a (drop (j * share b) b) n)
          ∙ ap (λ (x : List ℕ). take (share b) (drop (k * share b) x)) (take-append-drop (j * share b) b)
