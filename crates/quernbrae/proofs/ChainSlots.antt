-- What a call and a turn over the list say, from what those with one chain say of the chain that is read: `e` is what is
-- read past the end, where no packet's chain stands. Assumes nothing.
use Rattle.std.proofs.Common.{◌≡◌, ◌∙◌, ℕ, ◌<◌, Bool, true, false, cond, refl, None}
use Rattle.std.proofs.Common.{Some, eqb, List, length, get_or, set, drop, ap, sym, subst}
use Rattle.std.proofs.lemmas.List.{get_or_default}
use lib.Seq.{set-get_or}
use Rattle.piece.specs.Piece.{slot_by}
use Rattle.chains.specs.declared.Chain.{Chain}
use Rattle.chains.specs.declared.Called.{Called}
use Rattle.chains.specs.declared.Turned.{Turned}
use Rattle.chains.specs.Step.{fresh}
use Rattle.screen.specs.Screen.{goes_on}
use Rattle.chains.specs.Collect.{buffer_after, buffer_with, chain_with, chains_after, collected_of, refusal_of, share}
use Rattle.chains.specs.Collect.{whole_list}
use Rattle.chains.specs.Turn.{called_with, progress_of, turned_at}
use Rattle.chains.proofs.ListLaws.{slot-buffer, slot-chains, slot-inside, slot-progress, slot-report, slot-stays}

module _ (cs : List Chain) (b ws : List ℕ) (at : ℕ) (full : length cs ≡ whole_list) (i : ℕ)
    (p : i ≡ slot_by (get_or ws at 0)) where
  pub read-inside : i < length cs
  read-inside = subst (λ (n : ℕ). n < length cs) (sym p) (slot-inside cs b ws at full)

  module _ (e : Chain) where
    read_is : get_or cs i e ≡ get_or cs (slot_by (get_or ws at 0)) fresh
    read_is =
        ap (λ (n : ℕ). get_or cs n e) p
        ∙ get_or_default cs (slot_by (get_or ws at 0)) e fresh (slot-inside cs b ws at full)

    pub left-buffer : (o : List ℕ) → o ≡ buffer_with (get_or cs i e) b (drop at ws) → o ≡ buffer_after cs b (drop at ws)
    left-buffer o f =
        f ∙ ap (λ (c : Chain). buffer_with c b (drop at ws)) read_is ∙ slot-buffer cs b ws at full

    -- a turn of a run
    module _ (s : Turned) (z : s ≡ turned_at (get_or cs i e) b ws at) where
      turn_is : s ≡ turned_at (get_or cs (slot_by (get_or ws at 0)) fresh) b ws at
      turn_is = z ∙ ap (λ (c : Chain). turned_at c b ws at) read_is

      pub turn-progress : s.progress ≡ progress_of cs b ws at
      unfolding turned_at
      turn-progress = ap (λ (x : Turned). x.progress) turn_is ∙ slot-progress cs b ws at full

      pub turn-chains : (c : Chain) → s.chain ≡ Some c → set cs i c ≡ chains_after cs b (drop at ws)
      unfolding turned_at
      turn-chains c h = go (eqb (refusal_of (drop at ws)) goes_on) (sym (ap (λ (x : Turned). x.chain) turn_is) ∙ h)
        where
          new : Chain
          new = chain_with (get_or cs (slot_by (get_or ws at 0)) fresh) (share b) (drop at ws)

          go : (t : Bool) → cond t (Some new) None ≡ Some c → set cs i c ≡ chains_after cs b (drop at ws)
          go true e =
              let f : new ≡ c = cc in
              ap (λ (x : Chain). set cs i x) (sym f) ∙ ap (λ (n : ℕ). set cs n new) p ∙ slot-chains cs b ws at full
          go false e = absurd (cc)

      pub turn-stays : s.chain ≡ None → cs ≡ chains_after cs b (drop at ws)
      unfolding turned_at
      turn-stays h =
          go (eqb (refusal_of (drop at ws)) goes_on) refl (sym (ap (λ (x : Turned). x.chain) turn_is) ∙ h)
        where
          new : Chain
          new = chain_with (get_or cs (slot_by (get_or ws at 0)) fresh) (share b) (drop at ws)

          go : (t : Bool) → eqb (refusal_of (drop at ws)) goes_on ≡ t → cond t (Some new) None ≡ None
              → cs ≡ chains_after cs b (drop at ws)
          go true f e = absurd (cc)
          go false f e = sym (set-get_or cs (slot_by (get_or ws at 0)) fresh) ∙ slot-stays cs b ws at full f

-- a call at the start of the words
module _ (cs : List Chain) (b ws : List ℕ) (full : length cs ≡ whole_list) (i : ℕ) (p : i ≡ slot_by (get_or ws 0 0))
    (e : Chain) (s : Called) (z : s ≡ called_with (get_or cs i e) b ws) where
  call_is : s ≡ called_with (get_or cs (slot_by (get_or ws 0 0)) fresh) b ws
  call_is = z ∙ ap (λ (c : Chain). called_with c b ws) (read_is cs b ws 0 full i p e)

  pub call-report : s.report ≡ collected_of cs b ws
  unfolding called_with
  call-report = ap (λ (x : Called). x.report) call_is ∙ slot-report cs b ws 0 full

  pub call-chains : set cs i s.chain ≡ chains_after cs b ws
  unfolding called_with
  call-chains =
      ap (λ (x : Called). set cs i x.chain) call_is
      ∙ ap (λ (n : ℕ). set cs n (called_with (get_or cs (slot_by (get_or ws 0 0)) fresh) b ws).chain) p
      ∙ slot-chains cs b ws 0 full
