-- What a program needs of a call: it reads no more words than there are, the buffer keeps its length, and the bytes of
-- a finished chain stand in it. Assumes nothing.
use Prim.Native.Nat.{ℕ, ◌+◌, ◌≤◌, ◌<◌}
use mathlib.Core.Path.{◌≡◌, sym, ap, ◌∙◌}
use mathlib.Core.Logic.{◌⊎◌, inl, inr}
use mathlib.Core.List.{List}
use native.Mathlib.Omega.{arith}
use lib.ListN.{length}
use Rattle.ump.specs.Packet.{packet}
use Rattle.ump.proofs.PacketLaws.{packet-length}
use Rattle.stream.specs.Answers.{bad_address, sent}
use Rattle.screen.specs.Screen.{goes_on}
use Rattle.piece.proofs.PieceLaws.{piece-fine}
use Rattle.chains.specs.declared.Chain.{Chain}
use Rattle.chains.specs.Step.{part_of}
use Rattle.chains.specs.Collect.{beside, buffer_with, chain_of, collected, kept_open, part_at, piece_of, refusal_of}
use Rattle.chains.specs.Collect.{report_with, share}
use Rattle.chains.proofs.SortLaws.{chain-low, same_or_not}
use Rattle.chains.proofs.StepLaws.{part-kept, step-answer, step-within}
use Rattle.chains.proofs.CollectLaws.{buffer-piece, buffer-same, part_end, part_length, report-beside}
use Rattle.chains.proofs.CollectLaws.{report-kept}
use Rattle.chains.proofs.CollectLaws.{report-piece}
use Rattle.chains.proofs.PartLaws.{length-with}

-- the chain of a piece is one of the 32
pub piece-low : (s : List ℕ) → refusal_of s ≡ goes_on → chain_of s < 32
piece-low s e = chain-low (packet s) (inl e)

module _ (c : Chain) (b s : List ℕ) where
  -- the part of a piece's chain after it, and that it is as long
  unfoldable pub own-part : List ℕ
  own-part = part_of c (part_at (chain_of s) b) (piece_of s)

  pub own-length : refusal_of s ≡ goes_on → length own-part ≡ share b
  unfolding own-part
  own-length e =
      part-kept c (part_at (chain_of s) b) (piece_of s) (piece-fine _ _ _ _ _)
      ∙ part_length (chain_of s) b (piece-low s e)

  pub buffer-length : length (buffer_with c b s) ≡ length b
  unfolding own-part
  buffer-length = go (same_or_not (refusal_of s) goes_on)
    where
      go : (refusal_of s ≡ goes_on) ⊎ (refusal_of s ≡ goes_on → ⊥) → length (buffer_with c b s) ≡ length b
      go (inl e) =
          ap length (buffer-piece c b s e) ∙ length-with (chain_of s) own-part b (piece-low s e) (own-length e)
      go (inr n) = ap length (buffer-same c b s n)

module _ (c : Chain) (n : ℕ) (s : List ℕ) where
  -- the words read are the packet's
  pub reads : (report_with c n s).read ≡ length (packet s)
  unfolding collected kept_open beside
  reads = go (same_or_not (refusal_of s) goes_on) (same_or_not (refusal_of s) bad_address)
    where
      go : (refusal_of s ≡ goes_on) ⊎ (refusal_of s ≡ goes_on → ⊥)
          → (refusal_of s ≡ bad_address) ⊎ (refusal_of s ≡ bad_address → ⊥)
          → (report_with c n s).read ≡ length (packet s)
      go (inl e) f = rw (report-piece c n s e)
      go (inr m) (inl e) = rw (report-kept c n s e)
      go (inr m) (inr o) = rw (report-beside c n s m o)

  pub reads-within : (report_with c n s).read ≤ length s
  reads-within = omega (arith, reads, packet-length s)

  -- where no chain is asked the answer is what refuses the packet
  pub answer-other : (refusal_of s ≡ goes_on → ⊥) → (report_with c n s).answer ≡ refusal_of s
  unfolding kept_open beside
  answer-other m = go (same_or_not (refusal_of s) bad_address)
    where
      go : (refusal_of s ≡ bad_address) ⊎ (refusal_of s ≡ bad_address → ⊥) → (report_with c n s).answer ≡ refusal_of s
      go (inl e) = rw (report-kept c n s e) (sym e)
      go (inr o) = rw (report-beside c n s m o)

  -- a chain that is finished was asked about
  pub finished-asked : (report_with c n s).answer ≡ sent → refusal_of s ≡ goes_on
  finished-asked h = go (same_or_not (refusal_of s) goes_on)
    where
      go : (refusal_of s ≡ goes_on) ⊎ (refusal_of s ≡ goes_on → ⊥) → refusal_of s ≡ goes_on
      go (inl e) = e
      go (inr m) = sym (answer-other m) ∙ h

-- and its bytes stand within its part
pub stands-within : (c : Chain) (b s : List ℕ) → (report_with c (share b) s).answer ≡ sent
    → (report_with c (share b) s).start + (report_with c (share b) s).length ≤ length b
unfolding collected
stands-within c b s h =
    let e = finished-asked c (share b) s h in
    let k = chain_of s in
    let x = piece_of s in
    let r = rw (report-piece c (share b) s e) at h in
    let l = step-within c (share b) x (omega (arith, sym (step-answer c (share b) x) ∙ r)) in
    rw (report-piece c (share b) s e) (omega (arith, l, part_end k (length b) (piece-low s e)))
