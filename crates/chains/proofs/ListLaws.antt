-- A call and a turn with the chain in the packet's slot are those over the list of 32. Assumes nothing.
use Prim.Native.Nat.{ℕ, ◌<◌}
use mathlib.Core.Path.{◌≡◌, sym, ap, ◌∙◌}
use mathlib.Core.Bool.{false, not, ◌&&◌}
use mathlib.Core.List.{List}
use mathlib.Core.Logic.{◌⊎◌, inl, inr}
use native.Mathlib.Omega.{arith}
use lib.Dec.{eqb}
use lib.ListN.{drop, get_or, length, set, length-set}
use lib.Seq.{set-get_or}
use borrow.Author.Tests.{eqb-false, lt-ltb}
use Rattle.ground.proofs.Bools.{and-false}
use Rattle.ump.specs.Packet.{first, packet}
use Rattle.stream.specs.Answers.{bad_address, cut_packet}
use Rattle.screen.specs.Screen.{goes_on}
use Rattle.piece.specs.Piece.{no_chain, slot_by}
use Rattle.piece.proofs.PieceLaws.{slot-chain, slot-low}
use Rattle.chains.specs.declared.Chain.{Chain}
use Rattle.chains.specs.declared.Collected.{Collected}
use Rattle.chains.specs.Step.{fresh}
use Rattle.chains.specs.Collect.{buffer_after, buffer_with, chain_at, chain_of, chain_with, chains_after, collected}
use Rattle.chains.specs.Collect.{collected_of}
use Rattle.chains.specs.Collect.{buffer_of, chains_of, refusal_of, report_of, report_with, share, whole_list}
use Rattle.chains.specs.Run.{drops, open_at}
use Rattle.chains.specs.Turn.{progress_after, progress_of}
use Rattle.chains.proofs.SortLaws.{chain-low, same_or_not}
use Rattle.chains.proofs.CollectLaws.{buffer-same, chain_same, chains-same, report-beside, report-piece}
use Rattle.chains.proofs.CollectLaws.{whole-buffer}
use Rattle.chains.proofs.CollectLaws.{whole-chains, whole-report}
use Rattle.chains.proofs.WithinLaws.{answer-other, buffer-length}
use Rattle.chains.proofs.StandLaws.{first_of, whole-at}
use Rattle.chains.proofs.TurnLaws.{quiet, refusal-cut}

module _ (cs : List Chain) (b ws : List ℕ) (at : ℕ) where
  abbrev s : List ℕ
  s = drop at ws

  -- where the chain stands that is read, and the chain
  abbrev pub slot : ℕ
  slot = slot_by (get_or ws at 0)

  abbrev pub old : Chain
  old = get_or cs slot fresh

  -- of a packet that has one it is the packet's own
  own-slot : (refusal_of s ≡ goes_on) ⊎ (refusal_of s ≡ bad_address) → slot ≡ chain_of s
  own-slot h =
      let w = first_of ws at (whole-at ws at (λ z. uncut h (refusal-cut s z))) in
      rw (← w) (slot-chain (first (packet s)) (chain-low (packet s) h))
    where
      uncut : (refusal_of s ≡ goes_on) ⊎ (refusal_of s ≡ bad_address) → refusal_of s ≡ cut_packet → ⊥
      uncut (inl e) f = omega (arith, e, f)
      uncut (inr e) f = omega (arith, e, f)

  own-chain : (refusal_of s ≡ goes_on) ⊎ (refusal_of s ≡ bad_address) → old ≡ chain_at (chain_of s) cs
  own-chain h = ap (λ (k : ℕ). get_or cs k fresh) (own-slot h)

  pub own-report : report_with old (share b) s ≡ report_of cs b s
  own-report = go (same_or_not (refusal_of s) goes_on) (same_or_not (refusal_of s) bad_address)
    where
      go : (refusal_of s ≡ goes_on) ⊎ (refusal_of s ≡ goes_on → ⊥) → (refusal_of s ≡ bad_address) ⊎ (refusal_of s
          ≡ bad_address → ⊥)
          → report_with old (share b) s ≡ report_with (chain_at (chain_of s) cs) (share b) s
      go (inl e) f = ap (λ (c : Chain). report_with c (share b) s) (own-chain (inl e))
      go (inr n) (inl e) = ap (λ (c : Chain). report_with c (share b) s) (own-chain (inr e))
      go (inr n) (inr m) =
          report-beside old (share b) s n m ∙ sym (report-beside (chain_at (chain_of s) cs) (share b) s n m)

  pub own-chains : set cs slot (chain_with old (share b) s) ≡ chains_of cs b s
  own-chains = go (same_or_not (refusal_of s) goes_on)
    where
      go : (refusal_of s ≡ goes_on) ⊎ (refusal_of s ≡ goes_on → ⊥)
          → set cs slot (chain_with old (share b) s)
          ≡ set cs (chain_of s) (chain_with (chain_at (chain_of s) cs) (share b) s)
      go (inl e) = ap (λ (k : ℕ). set cs k (chain_with (get_or cs k fresh) (share b) s)) (own-slot (inl e))
      go (inr n) =
          ap (set cs slot) (chain_same old (share b) s n) ∙ set-get_or cs slot fresh ∙ sym (chains-same cs b s n)

  pub own-buffer : buffer_with old b s ≡ buffer_of cs b s
  own-buffer = go (same_or_not (refusal_of s) goes_on)
    where
      go : (refusal_of s ≡ goes_on) ⊎ (refusal_of s ≡ goes_on → ⊥) → buffer_with old b s
          ≡ buffer_with (chain_at (chain_of s) cs) b s
      go (inl e) = ap (λ (c : Chain). buffer_with c b s) (own-chain (inl e))
      go (inr n) = buffer-same old b s n ∙ sym (buffer-same (chain_at (chain_of s) cs) b s n)

  calm : (refusal_of s ≡ goes_on → ⊥) → drops (refusal_of s) ≡ false
  calm n = go (same_or_not (length (packet s)) 0)
    where
      go : (length (packet s) ≡ 0) ⊎ (length (packet s) ≡ 0 → ⊥) → drops (refusal_of s) ≡ false
      go (inl z) = ap drops (refusal-cut s z)
      go (inr some) = (quiet (packet s) some n).2

  -- whether an open chain is dropped
  pub own-open : open_at cs (report_of cs b s).chain && drops (report_of cs b s).answer
      ≡ (not (eqb old.packets 0) && drops (report_of cs b s).answer)
  unfolding open_at collected
  own-open = go (same_or_not (refusal_of s) goes_on)
    where
      go : (refusal_of s ≡ goes_on) ⊎ (refusal_of s ≡ goes_on → ⊥)
          → open_at cs (report_of cs b s).chain && drops (report_of cs b s).answer
          ≡ (not (eqb old.packets 0) && drops (report_of cs b s).answer)
      go (inl e) =
          let k : (report_of cs b s).chain ≡ slot =
          ap (λ (z : Collected). z.chain) (report-piece (chain_at (chain_of s) cs) (share b) s e)
          ∙ sym (own-slot (inl e)) in
          rw (k, lt-ltb slot no_chain (slot-low (get_or ws at 0)))
      go (inr n) =
          let d : drops (report_of cs b s).answer ≡ false =
          ap drops (answer-other (chain_at (chain_of s) cs) (share b) s n) ∙ calm n in
          rw (d, and-false (open_at cs (report_of cs b s).chain), and-false (not (eqb old.packets 0)))

-- over a list of 32
module _ (cs : List Chain) (b ws : List ℕ) (at : ℕ) (full : length cs ≡ whole_list) where
  abbrev r : List ℕ
  r = drop at ws

  pub slot-inside : slot cs b ws at < length cs
  slot-inside = omega (arith, slot-low (get_or ws at 0), full)

  pub slot-report : report_with (old cs b ws at) (share b) r ≡ collected_of cs b r
  slot-report = own-report cs b ws at ∙ sym (whole-report cs b r full)

  pub slot-chains : set cs (slot cs b ws at) (chain_with (old cs b ws at) (share b) r) ≡ chains_after cs b r
  slot-chains = own-chains cs b ws at ∙ sym (whole-chains cs b r full)

  pub slot-buffer : buffer_with (old cs b ws at) b r ≡ buffer_after cs b r
  slot-buffer = own-buffer cs b ws at ∙ sym (whole-buffer cs b r full)

  pub chains-long : length (chains_after cs b r) ≡ length cs
  chains-long = ap length (sym slot-chains) ∙ length-set cs (slot cs b ws at) (chain_with (old cs b ws at) (share b) r)

  pub buffer-long : length (buffer_after cs b r) ≡ length b
  buffer-long = ap length (sym slot-buffer) ∙ buffer-length (old cs b ws at) b r

  -- a chain that was not asked is as it was
  pub slot-stays : eqb (refusal_of r) goes_on ≡ false → set cs (slot cs b ws at) (old cs b ws at)
      ≡ chains_after cs b r
  slot-stays e =
      ap (set cs (slot cs b ws at)) (sym (chain_same (old cs b ws at) (share b) r (eqb-false (refusal_of r) goes_on e)))
      ∙ slot-chains

  -- whether it stops a run
  same-open : open_at cs (collected_of cs b r).chain && drops (collected_of cs b r).answer
      ≡ (not (eqb (old cs b ws at).packets 0) && drops (collected_of cs b r).answer)
  same-open = rw (whole-report cs b r full) (own-open cs b ws at)

  pub slot-progress : progress_after (old cs b ws at) at (length ws) (report_with (old cs b ws at) (share b) r)
      ≡ progress_of cs b ws at
  unfolding progress_after progress_of
  slot-progress = rw (slot-report, same-open)
