-- Streams cut into packets: packets joined again, and the packet that stands first. Assumes nothing.
use Prim.Native.Nat.{ℕ, zero, suc, ◌≤◌}
use mathlib.Core.Path.{◌≡◌, refl}
use mathlib.Core.List.{List, [], ◌∷◌, ◌++◌, append_assoc, append-nil}
use native.Mathlib.Omega.{arith}
use lib.Dec.{leb}
use lib.ListN.{length, length-take, take}
use borrow.Author.Tests.{leb-true}
use Rattle.ground.specs.Lists.{All, joined}
use Rattle.ground.proofs.Cases.{choose}
use Rattle.ump.specs.Packet.{Whole, cut, cut_after, first, packet, size}
use Rattle.ump.proofs.PacketLaws.{cut-whole, size-range}

-- whole packets joined are cut as they were, whatever follows
pub cut-joined : (ps : List (List ℕ)) (s : List ℕ) → All Whole ps → cut (joined ps ++ s) ≡ ps ++ cut s
cut-joined [] s h = refl
cut-joined (p ∷ ps) s h = rw (append_assoc p (joined ps) s, cut-whole p (joined ps ++ s) h.0, cut-joined ps s h.1)

pub cut_all : (ps : List (List ℕ)) → All Whole ps → cut (joined ps) ≡ ps
unfolding cut cut_after
cut_all ps h = rw (append-nil (joined ps), append-nil ps) at (cut-joined ps [] h)

-- the packet that stands first, where there is one: it is whole, starts with the first word, and has the size of that
pub standing : (s : List ℕ) → 1 ≤ length (packet s)
    → Whole (packet s) × (first s ≡ first (packet s)) × (length (packet s) ≡ size (first s))
unfolding packet Whole
standing [] h = absurd (omega arith)
standing (w ∷ s) h =
    choose (λ (p : List ℕ). 1 ≤ length p → Whole p × (w ≡ first p) × (length p ≡ size w))
    (leb (size w) (length (w ∷ s)))
    (λ e _. go (size w) refl (size-range w) (leb-true (size w) (length (w ∷ s)) e)) (λ e k. absurd (omega arith)) h
  where
    go : (n : ℕ) → size w ≡ n → (1 ≤ size w) × (size w ≤ 4) → size w ≤ length (w ∷ s)
        → Whole (take n (w ∷ s)) × (w ≡ first (take n (w ∷ s))) × (length (take n (w ∷ s)) ≡ size w)
    go zero e r l = absurd (omega arith)
    go (suc n) e r l = let k : suc (length (take n s)) ≡ size w = omega (arith, length-take n s) in (k, refl, k)
