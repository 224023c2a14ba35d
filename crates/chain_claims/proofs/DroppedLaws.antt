-- What a refusal leaves. Assumes nothing.
use Prim.Native.Nat.{ℕ, ◌<◌}
use mathlib.Core.Path.{◌≡◌, refl, ap, ◌∙◌}
use mathlib.Core.Bool.{Bool, true, false, cond}
use mathlib.Core.Logic.{◌⊎◌, inl, inr}
use mathlib.Core.List.{List}
use lib.ListN.{length}
use lib.Dec.{eqb}
use borrow.Author.Tests.{eqb-true, lt-leb}
use Rattle.chains.specs.declared.Chain.{Chain}
use Rattle.stream.specs.Answers.{out_of_turn, taken_in}
use Rattle.screen.specs.Screen.{goes_on}
use Rattle.chains.specs.Step.{fresh, part_of, refused_by, step_of, verdict}
use Rattle.chains.specs.Collect.{piece_of, refusal_of}
use Rattle.chains.proofs.SortLaws.{same_or_not}
use Rattle.chain_claims.specs.Claims.{Dropped, Held, one, told}
use Rattle.chain_claims.proofs.MadeLaws.{idle, told_is}

-- what a refused piece leaves of the chain
dropped-cases : (c : Chain) (a : ℕ) → (refused_by a c ≡ fresh) ⊎ ((a ≡ out_of_turn) × (c.packets ≡ 0)
    × (refused_by a c ≡ c))
unfolding refused_by
dropped-cases c a = go (eqb a out_of_turn) refl (eqb c.packets 0) refl
  where
    go : (s : Bool) → eqb a out_of_turn ≡ s → (t : Bool) → eqb c.packets 0 ≡ t
        → (cond s (cond t c fresh) fresh ≡ fresh) ⊎ ((a ≡ out_of_turn) × (c.packets ≡ 0)
        × (cond s (cond t c fresh) fresh ≡ c))
    go true e true f = inr (eqb-true a out_of_turn e, eqb-true c.packets 0 f, refl)
    go true e false f = inl refl
    go false e t f = inl refl

module _ (h : Held) (p : List ℕ) where
  -- a piece that is refused
  pieces : refusal_of p ≡ goes_on → taken_in < verdict h.chain (length h.part) (piece_of p)
      → ((one h p).part ≡ h.part) × ((one h p).chain
      ≡ refused_by (verdict h.chain (length h.part) (piece_of p)) h.chain)
  unfolding one step_of part_of
  pieces e l = rw (e, lt-leb (verdict h.chain (length h.part) (piece_of p)) 1 l) (refl, refl)

pub proved-dropped : Dropped
proved-dropped h p = record { bytes = bytes; chain = chain; kept = idle h p }
  where
    bytes : taken_in < told h p → (one h p).part ≡ h.part
    bytes l = go (same_or_not (refusal_of p) goes_on)
      where
        go : (refusal_of p ≡ goes_on) ⊎ (refusal_of p ≡ goes_on → ⊥) → (one h p).part ≡ h.part
        go (inl e) = (pieces h p e (rw (told_is h p e) at l)).0
        go (inr n) = ap (λ (x : Held). x.part) (idle h p n)

    chain : refusal_of p ≡ goes_on → taken_in < told h p → ((one h p).chain ≡ fresh) ⊎ ((told h p ≡ out_of_turn)
        × (h.chain.packets ≡ 0) × ((one h p).chain ≡ h.chain))
    chain e l = go (dropped-cases h.chain (verdict h.chain (length h.part) (piece_of p)))
        (pieces h p e (rw (told_is h p e) at l)).1
      where
        go : (refused_by (verdict h.chain (length h.part) (piece_of p)) h.chain ≡ fresh)
            ⊎ ((verdict h.chain (length h.part) (piece_of p) ≡ out_of_turn) × (h.chain.packets ≡ 0)
            × (refused_by (verdict h.chain (length h.part) (piece_of p)) h.chain ≡ h.chain))
            → (one h p).chain ≡ refused_by (verdict h.chain (length h.part) (piece_of p)) h.chain
            → ((one h p).chain ≡ fresh) ⊎ ((told h p ≡ out_of_turn) × (h.chain.packets ≡ 0)
            × ((one h p).chain ≡ h.chain))
        go (inl d) q = inl (q ∙ d)
        go (inr d) q = inr (told_is h p e ∙ d.0, d.1, q ∙ d.2)
