-- A call with one chain and a turn of a run, by the ways that their functions go: the packet is cut, its chain is
-- asked, or it is told without. Assumes nothing.
use Prim.Native.Nat.{ℕ, ◌+◌}
use mathlib.Core.Path.{◌≡◌, refl, sym, ap, ◌∙◌}
use mathlib.Core.Bool.{Bool, true, false, not}
use mathlib.Core.List.{List}
use mathlib.Core.Logic.{inr}
use native.Mathlib.Omega.{arith}
use lib.Dec.{eqb, leb, ltb}
use lib.ListN.{drop, get_or, length}
use borrow.Author.Tests.{eq-eqb, eqb-false, eqb-true, ne_eqb}
use Rattle.ground.proofs.Bools.{and-false, and_left}
use Rattle.ground.proofs.Cases.{choose}
use Rattle.ump.specs.Word.{group_of, message_type}
use Rattle.ump.specs.Packet.{first, packet}
use Rattle.ump.proofs.PacketLaws.{at_none}
use Rattle.fields.specs.Check.{bad_place_of, good_status}
use Rattle.stream.specs.Answers.{bad_address, cut_packet, sent, taken_in}
use Rattle.screen.specs.Screen.{Screened}
use Rattle.screen.specs.Screen.{admitted, answering, goes_on, neither_type, outside, reserved, screen, screen_by}
use Rattle.piece.specs.Piece.{address_of, chain_by, chain_for, flex, no_chain, slot_by}
use Rattle.piece.specs.Piece.{Piece, strange_address}
use Rattle.piece.proofs.PieceLaws.{slot-chain}
use Rattle.chains.specs.declared.Called.{Called}
use Rattle.chains.specs.declared.Chain.{Chain}
use Rattle.chains.specs.declared.Collected.{Collected}
use Rattle.std.specs.Prelude.{None, Some}
use Rattle.std.specs.declared.ops.ControlFlow.TheVariants.{Break}
use Rattle.chains.specs.declared.Turned.{Turned}
use Rattle.chains.specs.declared.part.Stepped.{Stepped}
use Rattle.chains.specs.Step.{base_of, finishes, part_of, step_of, strays, verdict_by}
use Rattle.chains.specs.Collect.{beside, buffer_with, chain_with, collected, kept_open, of_chain, part_at}
use Rattle.chains.specs.Collect.{piece_of}
use Rattle.chains.specs.Collect.{refusal_of, report_with, share, sort_by, sorted, with_part}
use Rattle.chains.specs.Run.{drops, further}
use Rattle.chains.specs.Turn.{besides, called_with, going_on, named_by, onward, piece_at}
use Rattle.chains.specs.Turn.{Progress, progress_after, turned_at}
use Rattle.chains.proofs.SortLaws.{chain-low, screen-no-address}
use Rattle.chains.proofs.StepLaws.{step-answer}
use Rattle.chains.proofs.CollectLaws.{buffer-piece, chain-piece, report-beside, report-kept}
use Rattle.chains.proofs.CollectLaws.{report-piece}
use Rattle.chains.proofs.WithinLaws.{answer-other, reads}
use Rattle.chains.proofs.StandLaws.{piece-at, slot_at}

-- a packet that is cut
pub refusal-cut : (s : List ℕ) → length (packet s) ≡ 0 → refusal_of s ≡ cut_packet
unfolding sort_by screen_by
refusal-cut s z = ap (λ (p : List ℕ). (sorted p).answer) (at_none (packet s) z)

pub report-cut : (c : Chain) (n : ℕ) (s : List ℕ) → length (packet s) ≡ 0 → report_with c n s ≡ besides cut_packet 0 0
unfolding sort_by screen_by
report-cut c n s z =
    let e = refusal-cut s z in
    report-beside c n s (λ f. omega (arith, e, f)) (λ f. omega (arith, e, f))
    ∙ ap (λ (p : List ℕ). beside (sorted p) (length p)) (at_none (packet s) z)

-- a whole packet whose chain is not asked stops no run
abbrev Quiet : ℕ → Type 0
Quiet a = (eqb a sent ≡ false) × (eqb a cut_packet ≡ false) × (drops a ≡ false)

pub quiet : (p : List ℕ) → (length p ≡ 0 → ⊥) → ((sorted p).answer ≡ goes_on → ⊥) → Quiet (sorted p).answer
unfolding sort_by of_chain screen_by outside admitted
quiet p some =
    choose Calm (eqb (screen neither_type p).answer goes_on)
    (λ _. choose (λ (a : ℕ). Calm (answering a)) (eqb (chain_by (first p)) no_chain) (λ _ _. (refl, refl, refl))
    (λ _. choose (λ (a : ℕ). Calm (answering a)) (strange_address (first p)) (λ _ _. (refl, refl, refl))
    (λ _ n. absurd (n refl))))
    (λ _. choose Calm (eqb (length p) 0) (λ e. absurd (some (eqb-true (length p) 0 e)))
    (λ _. choose Calm (reserved (message_type (first p))) (λ _ _. (refl, refl, refl))
    (λ _. choose Calm (eqb (message_type (first p)) neither_type) (λ _ _. (refl, refl, refl))
    (λ _. choose Calm (not (good_status (first p))) (λ _ _. (refl, refl, refl))
    (λ _. choose Calm (eqb (bad_place_of p) 0) (λ _ n. absurd (n refl)) (λ _ _. (refl, refl, refl)))))))
  where
    Calm : Screened → Type 0
    Calm s = (s.answer ≡ goes_on → ⊥) → Quiet s.answer

-- a packet that is told without its chain: with a strange address, of no chain, or bad
module _ (c : Chain) (n : ℕ) (s : List ℕ) where
  abbrev p : List ℕ
  p = packet s

  module _ (good : eqb (screen neither_type p).answer goes_on ≡ true) where
    strange-flex : strange_address (first p) ≡ true → message_type (first p) ≡ flex
    strange-flex e = eqb-true (message_type (first p)) flex (and_left (eqb (message_type (first p)) flex) (leb 2
        (address_of (first p))) e)

    good-sort : sorted p ≡ answering (of_chain (chain_by (first p)) (strange_address (first p)))
    unfolding sort_by
    good-sort = rw good

    refusal-good : refusal_of s ≡ of_chain (chain_by (first p)) (strange_address (first p))
    refusal-good = ap (λ (x : Screened). x.answer) good-sort

    refusal-strange : strange_address (first p) ≡ true → refusal_of s ≡ bad_address
    unfolding of_chain chain_for
    refusal-strange e =
        refusal-good
        ∙ rw (e, strange-flex e, ne_eqb (16 + (group_of (first p)).0) no_chain (λ f. omega (arith, f)))

    pub report-strange : strange_address (first p) ≡ true
        → named_by bad_address (length p) (slot_by (first p)) n c ≡ report_with c n s
    unfolding kept_open
    report-strange e =
        let f = refusal-strange e in
        rw (report-kept c n s f, slot-chain (first p) (chain-low p (inr f)))

    pub report-no-chain : strange_address (first p) ≡ false → (refusal_of s ≡ goes_on → ⊥)
        → besides taken_in 0 (length p) ≡ report_with c n s
    unfolding of_chain
    report-no-chain e asked = go (eqb (chain_by (first p)) no_chain) refl
      where
        none : eqb (chain_by (first p)) no_chain ≡ true → sorted p ≡ answering taken_in
        none h = good-sort ∙ rw h

        some : eqb (chain_by (first p)) no_chain ≡ false → refusal_of s ≡ goes_on
        some h = refusal-good ∙ rw (h, e)

        go : (t : Bool) → eqb (chain_by (first p)) no_chain ≡ t → besides taken_in 0 (length p) ≡ report_with c n s
        go true h =
            let z = ap (λ (x : Screened). x.answer) (none h) in
            ap (λ (x : Screened). beside x (length p)) (sym (none h))
            ∙ sym (report-beside c n s (λ f. omega (arith, z, f)) (λ f. omega (arith, z, f)))
        go false h = absurd (asked (some h))

  pub report-bad : eqb (screen neither_type p).answer goes_on ≡ false
      → beside (screen neither_type p) (length p) ≡ report_with c n s
  unfolding sort_by
  report-bad bad =
      let e : sorted p ≡ screen neither_type p = rw bad in
      ap (λ (x : Screened). beside x (length p)) (sym e)
      ∙ sym (report-beside c n s
      (λ f. eqb-false (screen neither_type p).answer goes_on bad (sym (ap (λ (x : Screened). x.answer) e) ∙ f))
      (λ f. screen-no-address p (sym (ap (λ (x : Screened). x.answer) e) ∙ f)))

-- a packet whose chain is asked, by the step that its function takes
module _ (c : Chain) (b ws : List ℕ) (at : ℕ) (asked : refusal_of (drop at ws) ≡ goes_on)
    (s : Stepped) (steps : s ≡ step_of c (share b) (piece_at ws at)) where
  stepped : s ≡ step_of c (share b) (piece_of (drop at ws))
  stepped = steps ∙ ap (λ (x : Piece). step_of c (share b) x) (sym (piece-at ws at asked))

  pub chain-asked : s.chain ≡ chain_with c (share b) (drop at ws)
  chain-asked = ap (λ (x : Stepped). x.chain) stepped ∙ sym (chain-piece c (share b) (drop at ws) asked)

  pub report-asked : (n k : ℕ) → n ≡ length (packet (drop at ws)) → k ≡ slot_by (get_or ws at 0)
      → named_by s.answer n k (share b) s.chain ≡ report_with c (share b) (drop at ws)
  unfolding collected
  report-asked n k e f =
      rw (report-piece c (share b) (drop at ws) asked, ← stepped, e, f, slot_at ws at asked)

-- the buffer after it
pub buffer-asked : (c : Chain) (b ws : List ℕ) (at k : ℕ) → refusal_of (drop at ws) ≡ goes_on
    → k ≡ slot_by (get_or ws at 0)
    → with_part k (part_of c (part_at k b) (piece_at ws at)) b ≡ buffer_with c b (drop at ws)
buffer-asked c b ws at k e f =
    rw (f, slot_at ws at e, ← piece-at ws at e) (sym (buffer-piece c b (drop at ws) e))

-- a call as its function makes it
pub called_is : (c : Chain) (b s : List ℕ) (r : Collected) (g : Chain) → r ≡ report_with c (share b) s
    → g ≡ chain_with c (share b) s → ◌≡◌ {A = Called} (record { report = r; chain = g }) (called_with c b s)
unfolding called_with
called_is c b s r g e f = rw (e, f)

-- a piece is never answered 3
no_cut : (c : Chain) (n : ℕ) (x : Piece) → eqb (step_of c n x).answer cut_packet ≡ false
unfolding verdict_by
no_cut c n x =
    ap (λ (a : ℕ). eqb a cut_packet) (step-answer c n x)
    ∙ choose Uncut (strays c x) (λ _. refl)
    (λ _. choose Uncut (leb 32 c.packets) (λ _. refl)
    (λ _. choose Uncut (ltb n (base_of c + x.count)) (λ _. refl)
    (λ _. choose Uncut (finishes x) (λ _. refl) (λ _. refl))))
  where
    Uncut : ℕ → Type 0
    Uncut a = eqb a cut_packet ≡ false

-- how far a run is after a call
module _ (c : Chain) (at n m : ℕ) (s : List ℕ) where
  pub progress-cut : length (packet s) ≡ 0
      → ◌≡◌ {A = Progress} (Break (besides cut_packet 0 at)) (progress_after c at n (report_with c m s))
  unfolding progress_after beside
  progress-cut z =
      let e : at + 0 ≡ at = omega arith in
      rw (report-cut c m s z, e)

  pub progress-asked : refusal_of s ≡ goes_on → (r : Collected) → r ≡ further at (report_with c m s)
      → onward c n r ≡ progress_after c at n (report_with c m s)
  unfolding onward progress_after collected
  progress-asked e r f = rw (f, uncut e)
    where
      uncut : refusal_of s ≡ goes_on → eqb (report_with c m s).answer cut_packet ≡ false
      uncut e = ap (λ (r : Collected). eqb r.answer cut_packet) (report-piece c m s e) ∙ no_cut c m (piece_of s)

  pub progress-other : (length (packet s) ≡ 0 → ⊥) → (refusal_of s ≡ goes_on → ⊥)
      → going_on (at + length (packet s)) n ≡ progress_after c at n (report_with c m s)
  unfolding progress_after
  progress-other some e =
      let q = quiet (packet s) some e in
      rw (answer-other c m s e, q.0, q.1, q.2, and-false (not (eqb c.packets 0)), reads c m s)

-- a turn as its function makes it
module _ (c : Chain) (b ws : List ℕ) (at : ℕ) (s : List ℕ) (from : s ≡ drop at ws) (t : Progress)
    (goes : t ≡ progress_after c at (length ws) (report_with c (share b) s)) where
  pub turned-asked : (g : Chain) → refusal_of s ≡ goes_on → g ≡ chain_with c (share b) s
      → ◌≡◌ {A = Turned} (record { progress = t; chain = Some g }) (turned_at c b ws at)
  unfolding turned_at
  turned-asked g e f = rw (goes, f, ← from, eq-eqb (refusal_of s) goes_on e)

  pub turned-aside : (refusal_of s ≡ goes_on → ⊥)
      → ◌≡◌ {A = Turned} (record { progress = t; chain = None }) (turned_at c b ws at)
  unfolding turned_at
  turned-aside n = rw (goes, ← from, ne_eqb (refusal_of s) goes_on n)
