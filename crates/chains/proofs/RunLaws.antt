-- What the loop of a run keeps: while there is more, the words read and then the run from here are the whole run; else
-- all is done. Assumes nothing.
use Prim.Native.Nat.{ℕ, suc, ◌+◌, ◌-◌, ◌<◌, ◌≤◌}
use mathlib.Core.Path.{◌≡◌, refl, sym, ap, ◌∙◌}
use mathlib.Core.Bool.{Bool, true, false, cond, ◌&&◌}
use mathlib.Core.List.{List, ◌∷◌}
use native.Mathlib.Omega.{arith}
use lib.Dec.{eqb, ltb}
use lib.ListN.{drop, get_or, length, take}
use lib.Seq.{drop-cons}
use borrow.Author.Tests.{eqb-true, eqb-false, ltb-false, ltb-true}
use Rattle.ground.proofs.Bools.{neither_left, neither_right}
use Rattle.ump.specs.Packet.{cut, first, packet, size}
use Rattle.ump.proofs.PacketLaws.{cut_at, cut-end, packet-near, size-range}
use Rattle.stream.specs.Answers.{bad_address, cut_packet, sent, taken_in}
use Rattle.screen.specs.Screen.{answering, goes_on}
use Rattle.piece.specs.Piece.{chain_by, piece_in}
use Rattle.chains.specs.declared.Chain.{Chain}
use Rattle.chains.specs.declared.Collected.{Collected}
use Rattle.std.specs.declared.ops.ControlFlow.TheVariants.{Break, Continue}
use Rattle.chains.specs.Step.{part_of, step_of}
use Rattle.chains.specs.Collect.{beside, buffer_after, buffer_with, chain_at, chain_with, chains_after}
use Rattle.chains.specs.Collect.{collected, collected_of, kept_open, part_at, report_of, report_with, share}
use Rattle.chains.specs.Collect.{sorted, unlisted, whole_list, with_part}
use Rattle.chains.specs.Run.{Ran, behind, drops, further, open_at, run_of, run_over, stops}
use Rattle.chains.specs.Turn.{Progress, begun, going_on, progress_of}
use Rattle.chains.proofs.CollectLaws.{whole-report}
use Rattle.chains.proofs.WithinLaws.{reads}
use Rattle.chains.proofs.StandLaws.{whole-at, words-of}
use Rattle.chains.proofs.TurnLaws.{report-cut}
use Rattle.chains.proofs.ListLaws.{chains-long}

-- a call sees no more of the words than their first packet
module _ (c : Chain) (w : ℕ) (s : List ℕ) where
  pub report-near : (n : ℕ) → report_with c n (take (size w) (w ∷ s)) ≡ report_with c n (w ∷ s)
  unfolding report_with
  report-near n =
      ap (λ (p : List ℕ).
      cond (eqb (sorted p).answer goes_on) (collected c n (chain_by (first p)) (length p) (piece_in p))
      (cond (eqb (sorted p).answer bad_address) (kept_open c n (chain_by (first p)) (length p))
      (beside (sorted p) (length p)))) (packet-near w s)

  pub chain-near : (n : ℕ) → chain_with c n (take (size w) (w ∷ s)) ≡ chain_with c n (w ∷ s)
  unfolding chain_with
  chain-near n =
      ap (λ (p : List ℕ). cond (eqb (sorted p).answer goes_on) (step_of c n (piece_in p)).chain c) (packet-near w s)

  pub buffer-near : (b : List ℕ) → buffer_with c b (take (size w) (w ∷ s)) ≡ buffer_with c b (w ∷ s)
  unfolding buffer_with
  buffer-near b =
      ap (λ (p : List ℕ).
      cond (eqb (sorted p).answer goes_on)
      (with_part (chain_by (first p)) (part_of c (part_at (chain_by (first p)) b) (piece_in p)) b) b) (packet-near w s)

module _ (cs : List Chain) (b : List ℕ) (w : ℕ) (s : List ℕ) where
  same-chain : chain_at (chain_by (first (packet (take (size w) (w ∷ s))))) cs
      ≡ chain_at (chain_by (first (packet (w ∷ s)))) cs
  same-chain = ap (λ (p : List ℕ). chain_at (chain_by (first p)) cs) (packet-near w s)

  call-near : (collected_of cs b (take (size w) (w ∷ s)) ≡ collected_of cs b (w ∷ s))
      × (chains_after cs b (take (size w) (w ∷ s)) ≡ chains_after cs b (w ∷ s))
      × (buffer_after cs b (take (size w) (w ∷ s)) ≡ buffer_after cs b (w ∷ s))
  unfolding collected_of chains_after buffer_after
  call-near =
      let c = chain_at (chain_by (first (packet (w ∷ s)))) cs in (
        rw (same-chain, report-near c w s (share b)),
        rw (same-chain, chain-near c w s (share b), packet-near w s),
        rw (same-chain, buffer-near c w s b),
      )

-- the run from a place on is its call there, and the run from the next packet on
module _ (cs : List Chain) (b ws : List ℕ) (at : ℕ) (inside : at < length ws) where
  abbrev s : List ℕ
  s = drop at ws

  near : (collected_of cs b (take (size (get_or ws at 0)) s) ≡ collected_of cs b s)
      × (chains_after cs b (take (size (get_or ws at 0)) s) ≡ chains_after cs b s)
      × (buffer_after cs b (take (size (get_or ws at 0)) s) ≡ buffer_after cs b s)
  near = rw (drop-cons ws at 0) (call-near cs b (get_or ws at 0) (drop (suc at) ws))

  pub run_at : run_over cs b (cut s)
      ≡ cond (stops cs (collected_of cs b s))
      (record { report = collected_of cs b s; chains = chains_after cs b s; buffer = buffer_after cs b s })
      (behind (collected_of cs b s).read
      (run_over (chains_after cs b s) (buffer_after cs b s) (cut (drop (at + size (get_or ws at 0)) ws))))
  unfolding run_over
  run_at = rw (cut_at ws at inside, near.0, near.1, near.2)

pub behind-behind : (n m : ℕ) (r : Ran) → behind n (behind m r) ≡ behind (n + m) r
behind-behind n m r =
    let e : n + (m + r.report.read) ≡ n + m + r.report.read = omega arith in
    rw e

-- how many turns there may still be over the words
abbrev pub left : List ℕ → Progress → ℕ
left ws (Continue at) = suc (length ws - at)
left ws (Break r) = 0

module _ (cs₀ : List Chain) (b₀ ws : List ℕ) where
  -- while there is more, and at the end
  abbrev pub Stands : Progress → List Chain → List ℕ → Type 0
  Stands (Continue at) cs b =
      (length cs ≡ whole_list)
      × (run_of cs₀ b₀ ws ≡ behind at (run_over cs b (cut (drop at ws))))
      × (at < length ws)
  Stands (Break r) cs b = record { report = r; chains = cs; buffer = b } ≡ run_of cs₀ b₀ ws

  -- at a place where nothing stopped the run
  going : (cs : List Chain) (b : List ℕ) (at : ℕ) → length cs ≡ whole_list
      → run_of cs₀ b₀ ws ≡ behind at (run_over cs b (cut (drop at ws)))
      → Stands (going_on at (length ws)) cs b
  unfolding beside run_over
  going cs b at full e = go (ltb at (length ws)) refl
    where
      go : (m : Bool) → ltb at (length ws) ≡ m
          → Stands (cond m (Continue at) (Break (beside (answering taken_in) at))) cs b
      go true h = (full, e, ltb-true at (length ws) h)
      go false h =
          let z : at + 0 ≡ at = omega arith in
          sym (e ∙ ap (λ (ps : List (List ℕ)). behind at (run_over cs b ps)) (cut-end ws at (ltb-false at (length ws)
          h)) ∙ rw z)

  none_before : (r : Ran) → r ≡ behind 0 r
  none_before r = let z : 0 + r.report.read ≡ r.report.read = omega arith in rw z

  pub begins : Stands (begun (length cs₀) (length ws)) cs₀ b₀
  unfolding begun run_of
  begins = go (eqb (length cs₀) whole_list) refl
    where
      start : Bool → Progress
      start t = cond t (going_on 0 (length ws)) (Break unlisted)

      go : (t : Bool) → eqb (length cs₀) whole_list ≡ t → Stands (start t) cs₀ b₀
      go true e = going cs₀ b₀ 0 (eqb-true (length cs₀) whole_list e) (rw e (none_before (run_over cs₀ b₀ (cut ws))))
      go false e = rw e

  -- one more turn
  module _ (at : ℕ) (cs : List Chain) (b : List ℕ) (st : Stands (Continue at) cs b) where
    abbrev r : Collected
    r = collected_of cs b (drop at ws)

    -- further on, fewer turns are left
    closer : (n : ℕ) → at < n → n ≤ length ws → left ws (going_on n (length ws)) < left ws (Continue at)
    closer n h m = go (ltb n (length ws))
      where
        go : (t : Bool) → left ws (cond t (Continue n) (Break (beside (answering taken_in) n))) < left ws (Continue at)
        go true = omega arith
        go false = omega arith

    pub turned : Stands (progress_of cs b ws at) (chains_after cs b (drop at ws)) (buffer_after cs b (drop at ws))
        × (left ws (progress_of cs b ws at) < left ws (Continue at))
    unfolding progress_of beside
    turned = go (stops cs r) refl
      where
        after : Bool → Progress
        after t = cond t (Break (further at r)) (going_on (at + r.read) (length ws))

        told : r ≡ report_of cs b (drop at ws)
        told = whole-report cs b (drop at ws) st.0

        some : stops cs r ≡ false → length (packet (drop at ws)) ≡ 0 → ⊥
        some e z =
            let f = neither_left (eqb r.answer cut_packet) (open_at cs r.chain && drops r.answer)
            (neither_right (eqb r.answer sent) _ e) in
            eqb-false r.answer cut_packet f (ap (λ (x : Collected). x.answer) (told
            ∙ report-cut _ (share b) (drop at ws) z))

        go : (t : Bool) → stops cs r ≡ t → Stands (after t) (chains_after cs b (drop at ws))
            (buffer_after cs b (drop at ws)) × (left ws (after t) < left ws (Continue at))
        go true e = (sym (st.1 ∙ ap (behind at) (run_at cs b ws at st.2 ∙ rw e)), omega arith)
        go false e =
            let w = whole-at ws at (some e) in
            let k : r.read ≡ size (get_or ws at 0) =
            ap (λ (x : Collected). x.read) told ∙ reads _ (share b) (drop at ws) ∙ words-of ws at w in
            let n : at + size (get_or ws at 0) ≡ at + r.read = omega (arith, k) in
            let f = st.1 ∙ ap (behind at) (run_at cs b ws at st.2 ∙ rw e) ∙ behind-behind at r.read _
            ∙ ap (λ (m : ℕ). behind (at + r.read) (run_over (chains_after cs b (drop at ws)) (buffer_after cs b (drop at
            ws)) (cut (drop m ws)))) n in (
              going (chains_after cs b (drop at ws)) (buffer_after cs b (drop at ws)) (at + r.read)
                  (chains-long cs b ws at st.0 ∙ st.0) f,
              closer (at + r.read) (omega (arith, k, (size-range (get_or ws at 0)).0)) (omega (arith, k, w.fits)),
            )
