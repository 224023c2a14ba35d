-- A row in the making: what was put so far stands from a place on, and more is put after it. Assumes nothing.
use Prim.Native.Nat.{ℕ, ◌+◌, ◌≤◌}
use mathlib.Core.Path.{◌≡◌, refl, sym, ap, ◌∙◌}
use mathlib.Core.List.{List, [], ◌∷◌, ◌++◌}
use native.Mathlib.Omega.{arith}
use lib.ListN.{drop, length, length-append, set, take}
use lib.Seq.{length-sets, sets, sets-eq, take_at}
use Rattle.std.proofs.Common.{Option, Some, is_some, true, unwrap_or}
use Rattle.ground.proofs.Stores.{sets-append}
use Rattle.text.specs.Lines.{place_if_put}
use Rattle.text.proofs.RowLaws.{Put, has_place, row_fits}

module _ (l₀ : List ℕ) (to : ℕ) where
  pub record Row (xs l : List ℕ) (at : ℕ) : Type 0 where
    pub place : at ≡ to + length xs
    pub is : l ≡ sets l₀ to xs

  pub nothing_put : Row [] l₀ to
  nothing_put = record { place = omega arith; is = refl }

  module _ {xs l : List ℕ} {at : ℕ} (r : Row xs l at) where
    pub row-long : length l ≡ length l₀
    row-long = ap length r.is ∙ length-sets l₀ to xs

    -- what is stored after it, and what is put after it with room for it
    pub and-stored : (ys : List ℕ) (end : ℕ) (after : List ℕ) → (end ≡ at + length ys) × (after ≡ sets l at ys)
        → Row (xs ++ ys) after end
    and-stored ys end after e =
        record {
          place = omega (arith, e.0, r.place, length-append xs ys);
          is = e.1 ∙ rw (r.is, r.place) (sym (sets-append l₀ to xs ys));
        }

    pub and-put : (ys : List ℕ) (end : ℕ) (after : List ℕ) → Put l at ys (Some end) after
        → to + length xs + length ys ≤ length l₀
        → Row (xs ++ ys) after end
    and-put ys end after e h =
        let f = row_fits l at ys (omega (arith, r.place, row-long)) in
        and-stored ys end after (ap (λ (o : Option ℕ). unwrap_or o 0) (e.0 ∙ sym f.0), e.1 ∙ sym f.1)

    pub and-fits : (ys : List ℕ) (end : Option ℕ) → end ≡ place_if_put l at ys → to + length xs + length ys ≤ length l₀
        → is_some end ≡ true
    and-fits ys end e h = has_place l at ys end e (omega (arith, r.place, row-long))

    pub and_byte : (b : ℕ) → Row (xs ++ (b ∷ [])) (set l at b) (at + 1)
    and_byte b = and-stored (b ∷ []) (at + 1) (set l at b) (refl, refl)

-- a row from the start of a buffer that it fits into is what stands first there
module _ (l₀ xs l : List ℕ) (at : ℕ) (n : at ≡ length xs) (e : l ≡ sets l₀ 0 xs) (h : at ≤ length l₀) where
  pub row_first : take at l ≡ xs
  row_first = rw (e, sets-eq xs l₀ 0 (omega arith), n) (take_at xs (drop (0 + length xs) l₀) (length xs) refl)
