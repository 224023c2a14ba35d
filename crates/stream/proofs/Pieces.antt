-- The pieces that a stream is cut into: each is a whole packet, but for the last, which may be short. Assumes nothing.
use Prim.Native.Nat.{ℕ, zero, suc, pred, ◌<◌}
use mathlib.Core.Path.{◌≡◌, refl, ◌∙◌}
use mathlib.Core.Bool.{Bool, true, false}
use mathlib.Core.Logic.{◌⊎◌, inl, inr}
use mathlib.Core.List.{List, [], ◌∷◌}
use native.Mathlib.Omega.{arith}
use lib.Dec.{ltb}
use lib.ListN.{length, length-take, take}
use borrow.Author.Tests.{ltb-false, ltb-true}
use Rattle.ump.specs.Packet.{Whole, cut, cut_after, size}
use Rattle.ump.proofs.PacketLaws.{cut-end, cut_after-drop, size-range}

abbrev pub Short : List ℕ → Type 0
Short [] = ⊥
Short (w ∷ s) = length (w ∷ s) < size w

abbrev pub Tidy : List (List ℕ) → Type 0
Tidy [] = Unit {0}
Tidy (p ∷ ps) = (Whole p × Tidy ps) ⊎ (Short p × (ps ≡ []))

pub cut-tidy : (s : List ℕ) → Tidy (cut s)
unfolding cut cut_after Whole
cut-tidy s = go 0 s
  where
    go : (k : ℕ) (s : List ℕ) → Tidy (cut_after k s)
    go k [] = tt
    go (suc k) (w ∷ s) = go k s
    go zero (w ∷ s) = one (size w) refl (ltb (length (w ∷ s)) (size w)) refl (go (pred (size w)) s)
      where
        one : (n : ℕ) → size w ≡ n → (b : Bool) → ltb (length (w ∷ s)) (size w) ≡ b → Tidy (cut_after (pred n) s)
            → Tidy (take n (w ∷ s) ∷ cut_after (pred n) s)
        one zero e b l ih = absurd (omega (arith, size-range w))
        one (suc n) e true l ih =
            let few : length (w ∷ s) < size w = ltb-true (length (w ∷ s)) (size w) l in
            inr (omega (arith, length-take n s), cut_after-drop n s ∙ cut-end s n (omega arith))
        one (suc n) e false l ih = inl (omega (arith, length-take n s, ltb-false (length (w ∷ s)) (size w) l), ih)
