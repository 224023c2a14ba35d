-- A row that is put into a buffer: whole, byte by byte, and where it fits. Assumes nothing.
use Prim.Native.Nat.{ℕ, zero, suc, ◌+◌, ◌-◌, ◌<◌, ◌≤◌}
use mathlib.Core.Path.{◌≡◌, refl, sym, ap, ◌∙◌}
use mathlib.Core.List.{List, [], ◌∷◌, ◌++◌}
use native.Mathlib.Omega.{arith}
use lib.Dec.{ltb}
use lib.ListN.{drop, length, length-append, set, take}
use lib.Seq.{length-take-le, sets, take_all}
use borrow.Author.Tests.{le-leb, lt-leb}
use Rattle.std.proofs.Common.{Option, None, Some, is_some, true, unwrap_or}
use Rattle.std.proofs.lemmas.List.{take-append-le}
use Rattle.std.proofs.lemmas.List.Edits.{sets-eq}
use Rattle.ground.proofs.Cases.{by_bool, choose}
use Rattle.ground.proofs.Stores.{sets-append}
use Rattle.text.specs.Lines.{fits_from, place_after, place_if_put, places_in, with_row}

-- a number has a digit
pub places-some : (f n : ℕ) → 0 < places_in f n
unfolding places_in
places-some zero n = omega arith
places-some (suc f) n = choose (λ (k : ℕ). 0 < k) (ltb n 10) (λ _. omega arith) (λ _. omega arith)

-- what a row makes of a buffer
abbrev pub Put : List ℕ → ℕ → List ℕ → Option ℕ → List ℕ → Type 0
Put l to row end after = (end ≡ place_if_put l to row) × (after ≡ with_row l to row)

-- the place after it, or else the place itself
pub or-else : (l : List ℕ) (to : ℕ) (row : List ℕ) (end : Option ℕ) → end ≡ place_if_put l to row
    → unwrap_or end to ≡ place_after l to row
or-else l to row end e = by_bool (fits_from l to row) (λ b. rw (e, b)) (λ b. rw (e, b))

module _ (l : List ℕ) (to : ℕ) (row : List ℕ) where
  pub row_fits : to + length row ≤ length l → Put l to row (Some (to + length row)) (sets l to row)
  row_fits h = rw (le-leb (length row) (length l - to) (omega arith)) (refl, refl)

  -- so there is a place after it
  pub has_place : (end : Option ℕ) → end ≡ place_if_put l to row → to + length row ≤ length l → is_some end ≡ true
  has_place end e h = rw (e, le-leb (length row) (length l - to) (omega arith)) refl

  -- by the test that the code makes of the row's length
  module _ (n : ℕ) (e : n ≡ length row) where
    pub put_there : n ≤ length l - to → (end : ℕ) (after : List ℕ) → end ≡ to + n → after ≡ sets l to row
        → Put l to row (Some end) after
    put_there h end after f g =
        rw (le-leb (length row) (length l - to) (omega arith)) (ap Some (f ∙ rw e), g)

    pub put_nowhere : length l - to < n → Put l to row None l
    put_nowhere h = rw (lt-leb (length row) (length l - to) (omega arith)) (refl, refl)

-- a row behind what stands in the first places
pub made_longer : (l xs s : List ℕ) (n : ℕ) → take n l ≡ s → n ≤ length l → length s + length xs ≤ length l
    → take (n + length xs) (sets l n xs) ≡ s ++ xs
made_longer l xs s n e h f =
    let k : length s ≡ n = ap length (sym e) ∙ length-take-le n l h in
    let m : length (s ++ xs) ≡ n + length xs = omega (arith, length-append s xs, k) in
    let p = take-append-le (n + length xs) (s ++ xs) (drop (n + length xs) l) (omega (arith, m)) in
    rw (sets-eq xs l n (omega arith), e, p)
    (take_all (n + length xs) (s ++ xs) (omega (arith, m)))

-- a head, fields and the end of the line, one after the other
pub whole_length : (head fields : List ℕ) → length (head ++ fields ++ (10 ∷ [])) ≡ length head + length fields + 1
whole_length head fields = omega (arith, length-append head fields, length-append (head ++ fields) (10 ∷ []))

pub whole_stored : (l head fields : List ℕ) (to : ℕ)
    → set (sets (sets l to head) (to + length head) fields) (to + length head + length fields) 10
    ≡ sets l to (head ++ fields ++ (10 ∷ []))
whole_stored l head fields to =
    let e : to + length (head ++ fields) ≡ to + length head + length fields =
    omega (arith, length-append head fields) in
    rw (sets-append l to (head ++ fields) (10 ∷ []), e, sets-append l to head fields)
