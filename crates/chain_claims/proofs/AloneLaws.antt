-- A packet changes no chain and no part but its own; and what one chain collects depends on its own packets alone.
-- Assumes nothing.
use Prim.Native.Nat.{ℕ, ◌*◌, ◌<◌}
use mathlib.Core.Path.{◌≡◌, refl, sym, ap, ap₂, ◌∙◌}
use mathlib.Core.Logic.{◌⊎◌, inl, inr}
use mathlib.Core.List.{List, [], ◌∷◌}
use native.Mathlib.Omega.{arith}
use lib.ListN.{length, drop, set, length-set}
use lib.Seq.{get_or-set_other, get_or-set_same}
use borrow.Author.Tests.{eq-eqb, ne_eqb}
use Rattle.screen.specs.Screen.{goes_on}
use Rattle.chains.specs.declared.Chain.{Chain}
use Rattle.chains.specs.declared.Collected.{Collected}
use Rattle.chains.specs.Step.{fresh, step_of}
use Rattle.chains.specs.Collect.{buffer_after, chain_at, chain_of, chains_after, collected, collected_of, piece_of}
use Rattle.chains.specs.Collect.{refusal_of}
use Rattle.chains.specs.Collect.{share, whole_list, with_part}
use Rattle.chains.proofs.SortLaws.{same_or_not}
use Rattle.chains.proofs.CollectLaws.{buffer-piece, buffer-same, chain-piece, chains-same, part_length, report-piece}
use Rattle.chains.proofs.CollectLaws.{whole-buffer, whole-chains, whole-report}
use Rattle.chains.proofs.PartLaws.{before, drop-with, part-other, part_same}
use Rattle.chains.proofs.WithinLaws.{answer-other, buffer-length, own-length, own-part, piece-low}
use Rattle.chain_claims.specs.Claims.{All32, Alone, Apart, Held, NoTouch, World, after, answer, answers, gathered}
use Rattle.chain_claims.specs.Claims.{held_at, one, only, run, tells, told}

-- the chains after a call, and its answer, by whether the packet is a piece
module _ (cs : List Chain) (b s : List ℕ) (full : length cs ≡ whole_list) where
  abbrev c : Chain
  c = chain_at (chain_of s) cs

  chains-piece : refusal_of s ≡ goes_on
      → chains_after cs b s ≡ set cs (chain_of s) (step_of c (share b) (piece_of s)).chain
  chains-piece e = whole-chains cs b s full ∙ ap (set cs (chain_of s)) (chain-piece c (share b) s e)

  answer-piece : refusal_of s ≡ goes_on → (collected_of cs b s).answer ≡ (step_of c (share b) (piece_of s)).answer
  unfolding collected
  answer-piece e = ap (λ (r : Collected). r.answer) (whole-report cs b s full ∙ report-piece c (share b) s e)

  others : (refusal_of s ≡ goes_on → ⊥) → (chains_after cs b s ≡ cs) × ((collected_of cs b s).answer ≡ refusal_of s)
  others n = (
    whole-chains cs b s full ∙ chains-same cs b s n,
    ap (λ (r : Collected). r.answer) (whole-report cs b s full) ∙ answer-other c (share b) s n,
  )

  -- the buffer: a piece's own part stands in it after it, and else it is as it was
  own-buffer : refusal_of s ≡ goes_on → buffer_after cs b s ≡ with_part (chain_of s) (own-part c b s) b
  unfolding own-part
  own-buffer e = whole-buffer cs b s full ∙ buffer-piece c b s e

  same-buffer : (refusal_of s ≡ goes_on → ⊥) → buffer_after cs b s ≡ b
  same-buffer n = whole-buffer cs b s full ∙ buffer-same c b s n

module _ (w : World) (p : List ℕ) (full : All32 w) where
  pub other : (k : ℕ) → k < 32 → (chain_of p ≡ k → ⊥) → held_at k (after w p) ≡ held_at k w
  other k low ne = go (same_or_not (refusal_of p) goes_on)
    where
      go : (refusal_of p ≡ goes_on) ⊎ (refusal_of p ≡ goes_on → ⊥) → held_at k (after w p) ≡ held_at k w
      go (inl e) =
          rw (
            chains-piece w.chains w.buffer p full e,
            own-buffer w.chains w.buffer p full e,
            get_or-set_other w.chains (chain_of p) k (step_of (chain_at (chain_of p) w.chains) (share w.buffer)
                (piece_of p)).chain fresh (λ q. ne (sym q)),
            part-other (chain_of p) (own-part (chain_at (chain_of p) w.chains) w.buffer p) w.buffer (piece-low p
                e)
                (own-length (chain_at (chain_of p) w.chains) w.buffer p e) k low ne,
          )
      go (inr n) = rw ((others w.chains w.buffer p full n).0, same-buffer w.chains w.buffer p full n)

  own-piece : refusal_of p ≡ goes_on → (held_at (chain_of p) (after w p) ≡ one (held_at (chain_of p) w) p)
      × (answer w p ≡ told (held_at (chain_of p) w) p)
  unfolding one told own-part
  own-piece e =
      let j = chain_of p in
      let low = piece-low p e in
      let n : j < length w.chains = omega (arith, full, low) in
      rw (
        chains-piece w.chains w.buffer p full e,
        own-buffer w.chains w.buffer p full e,
        answer-piece w.chains w.buffer p full e,
        get_or-set_same w.chains j (step_of (chain_at j w.chains) (share w.buffer) (piece_of p)).chain fresh n,
        part_same j (own-part (chain_at (chain_of p) w.chains) w.buffer p) w.buffer low (own-length (chain_at
            (chain_of p) w.chains) w.buffer p e),
        e,
        part_length j w.buffer low,
      ) (refl, refl)

  pub own : (k : ℕ) → k < 32 → chain_of p ≡ k → (held_at k (after w p) ≡ one (held_at k w) p)
      × (answer w p ≡ told (held_at k w) p)
  unfolding one told
  own k low q = go (same_or_not (refusal_of p) goes_on)
    where
      go : (refusal_of p ≡ goes_on) ⊎ (refusal_of p ≡ goes_on → ⊥) → (held_at k (after w p) ≡ one (held_at k w) p)
          × (answer w p ≡ told (held_at k w) p)
      go (inl e) = rw (← q) (own-piece e)
      go (inr n) =
          let o = others w.chains w.buffer p full n in
          rw (o.0, o.1, same-buffer w.chains w.buffer p full n, ne_eqb (refusal_of p) goes_on n) (refl, refl)

  rest : drop (32 * share w.buffer) (after w p).buffer ≡ drop (32 * share w.buffer) w.buffer
  rest = go (same_or_not (refusal_of p) goes_on)
    where
      go : (refusal_of p ≡ goes_on) ⊎ (refusal_of p ≡ goes_on → ⊥)
          → drop (32 * share w.buffer) (after w p).buffer ≡ drop (32 * share w.buffer) w.buffer
      go (inl e) =
          rw (own-buffer w.chains w.buffer p full e)
          (drop-with (chain_of p) (own-part (chain_at (chain_of p) w.chains) w.buffer p) w.buffer (piece-low p e)
          (own-length (chain_at (chain_of p) w.chains) w.buffer p e) (32 * share w.buffer)
          (before (chain_of p) 32 (share w.buffer) (piece-low p e)))
      go (inr n) = rw (same-buffer w.chains w.buffer p full n)

  same : All32 (after w p) × (length (after w p).buffer ≡ length w.buffer)
  same = (
    go (same_or_not (refusal_of p) goes_on),
    ap length (whole-buffer w.chains w.buffer p full)
        ∙ buffer-length (chain_at (chain_of p) w.chains) w.buffer p,
  )
    where
      go : (refusal_of p ≡ goes_on) ⊎ (refusal_of p ≡ goes_on → ⊥) → All32 (after w p)
      go (inl e) =
          rw (chains-piece w.chains w.buffer p full e)
          (length-set w.chains (chain_of p) (step_of (chain_at (chain_of p) w.chains) (share w.buffer) (piece_of
          p)).chain
          ∙ full)
      go (inr n) = rw (others w.chains w.buffer p full n).0 full

  pub apart : Apart w p
  apart = record { other = other; own = own; rest = rest; same = same }

pub proved-no-touch : NoTouch
proved-no-touch w p full = apart w p full

-- one chain's state after a list of packets is that of its own packets
pub gathered-alone : (k : ℕ) (ps : List (List ℕ)) (w : World) → k < 32 → All32 w
    → held_at k (run w ps) ≡ gathered (held_at k w) (only k ps)
unfolding run gathered only
gathered-alone k [] w low full = refl
gathered-alone k (p ∷ ps) w low full =
    go (same_or_not (chain_of p) k) (gathered-alone k ps (after w p) low (apart w p full).same.0)
  where
    go : (chain_of p ≡ k) ⊎ (chain_of p ≡ k → ⊥) → held_at k (run (after w p) ps)
        ≡ gathered (held_at k (after w p)) (only k ps)
        → held_at k (run (after w p) ps) ≡ gathered (held_at k w) (only k (p ∷ ps))
    go (inl e) ih = rw (eq-eqb (chain_of p) k e) (ih
        ∙ ap (λ (h : Held). gathered h (only k ps)) ((apart w p full).own k low e).0)
    go (inr n) ih = rw (ne_eqb (chain_of p) k n) (ih
        ∙ ap (λ (h : Held). gathered h (only k ps)) ((apart w p full).other k low n))

answers-alone : (k : ℕ) (ps : List (List ℕ)) (w : World) → k < 32 → All32 w
    → answers k w ps ≡ tells (held_at k w) (only k ps)
unfolding answers tells only
answers-alone k [] w low full = refl
answers-alone k (p ∷ ps) w low full =
    go (same_or_not (chain_of p) k) (answers-alone k ps (after w p) low (apart w p full).same.0)
  where
    go : (chain_of p ≡ k) ⊎ (chain_of p ≡ k → ⊥) → answers k (after w p) ps ≡ tells (held_at k (after w p)) (only k ps)
        → answers k w (p ∷ ps) ≡ tells (held_at k w) (only k (p ∷ ps))
    go (inl e) ih =
        let o = (apart w p full).own k low e in
        rw (eq-eqb (chain_of p) k e) (ap₂ ◌∷◌ o.1 (ih ∙ ap (λ (h : Held). tells h (only k ps)) o.0))
    go (inr n) ih = rw (ne_eqb (chain_of p) k n) (ih
        ∙ ap (λ (h : Held). tells h (only k ps)) ((apart w p full).other k low n))

only-only : (k : ℕ) (ps : List (List ℕ)) → only k (only k ps) ≡ only k ps
unfolding only
only-only k [] = refl
only-only k (p ∷ ps) = go (same_or_not (chain_of p) k) (only-only k ps)
  where
    go : (chain_of p ≡ k) ⊎ (chain_of p ≡ k → ⊥) → only k (only k ps) ≡ only k ps
        → only k (only k (p ∷ ps)) ≡ only k (p ∷ ps)
    go (inl e) ih = rw (eq-eqb (chain_of p) k e, eq-eqb (chain_of p) k e) (ap (λ (l : List (List ℕ)). p ∷ l) ih)
    go (inr n) ih = rw (ne_eqb (chain_of p) k n) ih

pub proved-alone : Alone
proved-alone k w ps low full =
    let g = gathered-alone k ps w low full in (
      g ∙ sym (gathered-alone k (only k ps) w low full ∙ ap (gathered (held_at k w)) (only-only k ps)),
      g,
      answers-alone k ps w low full,
    )
