-- What one packet comes to, as the code says it and as the definition does; and that a step looks at its own packet
-- alone, goes on only with a whole one, and always has room for its line. Assumes nothing.
use Prim.Native.Nat.{ℕ, ◌+◌, ◌-◌, ◌≤◌}
use mathlib.Core.Path.{◌≡◌, refl, sym, ap, ap₂, ◌∙◌, subst}
use mathlib.Core.Bool.{true, false}
use mathlib.Core.Logic.{⊎_elim}
use mathlib.Core.List.{List, [], ◌∷◌}
use native.Mathlib.Omega.{arith}
use native.Mathlib.Nat.{add-zero, sub-zero}
use lib.Dec.{eqb, ltb}
use lib.ListN.{drop, length, length-append, length-drop, take}
use lib.Seq.{length-take-le, sets-eq, take_all}
use borrow.Author.Tests.{eq-eqb, le-leb, ltb-false, ne_eqb}
use Rattle.std.proofs.Common.{Option, Some, is_some, unwrap_or}
use Rattle.ground.specs.Store.{written}
use Rattle.ground.proofs.Cases.{choose}
use Rattle.ground.proofs.StoreLaws.{written_none}
use Rattle.ump.specs.Packet.{first, packet, size}
use Rattle.ump.proofs.PacketLaws.{packet-near, packet-size}
use Rattle.stream.specs.declared.Done.{Done}
use Rattle.stream.specs.Answers.{cut_packet, no_room, sent}
use Rattle.stream.specs.Call.{Call, answer_of, fit, left_of, read_of, sent_of, stopped, went}
use Rattle.stream.specs.Report.{counting, reported}
use Rattle.stream.specs.Run.{Ran, run}
use Rattle.stream.proofs.RunLaws.{by-first-call, words-read}
use Rattle.stream.proofs.RunLoop.{Inside}
use Rattle.chains.specs.declared.Chain.{Chain}
use Rattle.chains.specs.declared.Collected.{Collected}
use Rattle.piece.specs.Piece.{chain_by}
use Rattle.chains.specs.Collect.{buffer_of, chain_at, chain_of, chains_of, report_of, share}
use Rattle.chains.proofs.TurnLaws.{refusal-cut}
use Rattle.chains.proofs.RunLaws.{buffer-near, chain-near, report-near}
use Rattle.chains.proofs.CollectLaws.{buffer-same, chains-same}
use Rattle.chains.proofs.WithinLaws.{reads, reads-within, stands-within}
use Rattle.tally.specs.Tally.{counted, sort_of}
use Rattle.text.specs.Lines.{place_if_put, with_row}
use Rattle.text.proofs.RowLaws.{has_place}
use Rattle.gather.specs.Gather.{Held, collected_at, gather, gathered_after, gathering, held, line_after}
use Rattle.gather.specs.Gather.{line_at, longest}
use Rattle.gather.proofs.LineLaws.{line-short}

-- a cut packet leaves the chains and the buffer as they were
pub cut-chains : (cs : List Chain) (b s : List ℕ) → length (packet s) ≡ 0 → chains_of cs b s ≡ cs
cut-chains cs b s h =
    let e = refusal-cut s h in
    chains-same cs b s (λ g. omega (arith, e, g))

pub cut-kept : (cs : List Chain) (b s : List ℕ) → length (packet s) ≡ 0 → buffer_of cs b s ≡ b
cut-kept cs b s h =
    let e = refusal-cut s h in
    buffer-same (chain_at (chain_of s) cs) b s (λ g. omega (arith, e, g))

-- what a call reports, from the words after a place: they are all the rest of the list
pub rest_part : {A : Type 0} (i : ℕ) (l : List A) → take (length l - i) (drop i l) ≡ drop i l
rest_part i l = take_all (length l - i) (drop i l) (omega (arith, length-drop i l))

pub stands : (cs : List Chain) (b s : List ℕ) (r : Collected) → r ≡ report_of cs b s → r.answer ≡ sent
    → r.start + r.length ≤ length b
stands cs b s r e =
    subst (λ (x : Collected). x.answer ≡ sent → x.start + x.length ≤ length b) (sym e) (stands-within (chain_at
    (chain_of s) cs) b s)

pub few-read : (cs : List Chain) (b s : List ℕ) (r : Collected) → r ≡ report_of cs b s → r.read ≤ length s
few-read cs b s r e = subst (λ (x : Collected). x.read ≤ length s) (sym e) (reads-within (chain_at (chain_of s) cs)
    (share b) s)

-- ---- the step

same-chain : (cs : List Chain) (w : ℕ) (s : List ℕ)
    → chain_at (chain_of (take (size w) (w ∷ s))) cs ≡ chain_at (chain_of (w ∷ s)) cs
same-chain cs w s = ap (λ (p : List ℕ). chain_at (chain_by (first p)) cs) (packet-near w s)

pub gather-near : (t : ℕ × Held) (w : ℕ) (s : List ℕ) → gather t (take (size w) (w ∷ s)) ≡ gather t (w ∷ s)
unfolding gather
gather-near t w s =
    let cs = t.1.chains in
    let b = t.1.buffer in
    let c = chain_at (chain_of (w ∷ s)) cs in
    rw (
      same-chain cs w s,
      report-near c w s (share b),
      chain-near c w s (share b),
      buffer-near c w s b,
      packet-near w s,
    )

whole-inside : {T : Type 0} (w : ℕ) (s : List ℕ) (c : Call T) → length (packet (w ∷ s)) ≡ size w
    → size w ≤ length (w ∷ s) → Inside (w ∷ s) c
whole-inside w s (went a ws u) e h = (e, h)
whole-inside w s (stopped a) e h = tt

none_inside : (t : ℕ × Held) (w : ℕ) (s : List ℕ) → packet (w ∷ s) ≡ [] → Inside (w ∷ s) (gather t (w ∷ s))
unfolding gather
none_inside t w s e =
    choose (λ (c : Call (ℕ × Held)). Inside (w ∷ s) c) (ltb t.0 (longest (length t.1.buffer))) (λ _. tt)
    (λ _. rw (eq-eqb (length (packet (w ∷ s))) 0 (ap length e)) tt)

pub gather-inside : (t : ℕ × Held) (w : ℕ) (s : List ℕ) → Inside (w ∷ s) (gather t (w ∷ s))
gather-inside t w s =
    ⊎_elim (none_inside t w s) (λ h. whole-inside w s (gather t (w ∷ s)) (ap length h.0
    ∙ length-take-le (size w) (w ∷ s) h.1) h.1)
    (packet-size w s)

-- what a step sends has room, and it takes that much of it
abbrev pub Fits : ℕ × Held → Call (ℕ × Held) → Type 0
Fits t (went a ws u) = (length ws ≤ t.0) × (u.0 ≡ t.0 - length ws)
Fits t (stopped a) = Unit {0}

pub fits : (t : ℕ × Held) (s : List ℕ) → Fits t (gather t s)
unfolding gather
fits t s =
    choose (Fits t) (ltb t.0 (longest (length t.1.buffer))) (λ _. tt)
    (λ e. choose (Fits t) (eqb (length (packet s)) 0) (λ _. tt)
    (λ _. (omega (arith, ltb-false t.0 (longest (length t.1.buffer)) e, line-short t.1 s), refl)))

-- so all that a run sends has room
pub sends-short : (ps : List (List ℕ)) (t : ℕ × Held) → length (run gather t ps).sends ≤ t.0
unfolding run
sends-short [] t = omega arith
sends-short (p ∷ ps) t =
    by-first-call gather (λ (r : Ran (ℕ × Held)). length r.sends ≤ t.0) t p ps
    (λ a ws u e.
    let f : Fits t (went a ws u) = rw e at (fits t p) in
    omega (arith, length-append ws (run gather u ps).sends, sends-short ps u, f.0, f.1))
    (λ a e. omega arith)

-- and it is the same with the room asked once more
pub fit_same : (t : ℕ × Held) (p : List ℕ) (c : Call (ℕ × Held)) → Fits t c
    → (answer_of (fit t.0 c) ≡ answer_of c) × (read_of p (fit t.0 c) ≡ read_of p c)
    × (sent_of (fit t.0 c) ≡ sent_of c) × ((left_of (t.0, t) (fit t.0 c)).1 ≡ left_of t c)
fit_same t p (went a ws u) f = rw (le-leb (length ws) t.0 f.0) (refl, refl, refl, refl)
fit_same t p (stopped a) f = (refl, refl, refl, refl)

pub left-room : (t : ℕ × Held) (c : Call (ℕ × Held)) → Fits t c → (left_of t c).0 ≡ t.0 - length (sent_of c)
left-room t (went a ws u) f = f.1
left-room t (stopped a) f = sym (sub-zero t.0)

-- ---- the call that the code makes

module _ (h : Held) (s text : List ℕ) (d : Done) where
  abbrev free : ℕ
  free = length text - d.written

  -- what the call reports, holds and leaves in the text
  abbrev pub At : Done → Held → List ℕ → Type 0
  At done h' text' =
      let c = gather (free, h) s in
      (done ≡ gathered_after d (packet s) c) × (h' ≡ (left_of (free, h) c).1) × (text'
      ≡ written d.written (sent_of c) text)

  pub at-full : ltb free (longest (length h.buffer)) ≡ true → At (counting no_room d.read d.written) h text
  unfolding gather
  at-full e = rw e (rw (add-zero d.read, add-zero d.written), refl, sym (written_none d.written text))

  pub at_cut : (r : Collected) (cs' : List Chain) (b' : List ℕ) → r ≡ collected_at h s
      → cs' ≡ chains_of h.chains h.buffer s → b' ≡ buffer_of h.chains h.buffer s
      → ltb free (longest (length h.buffer)) ≡ false → r.read ≡ 0
      → At (counting cut_packet d.read d.written) (held cs' h.counts b') text
  unfolding gather
  at_cut r cs' b' er es eb e z =
      let k : length (packet s) ≡ 0 =
      sym (reads (chain_at (chain_of s) h.chains) (share h.buffer) s)
      ∙ sym (ap (λ (x : Collected). x.read) er) ∙ z in
      rw (e, eq-eqb (length (packet s)) 0 k) (
        rw (add-zero d.read, add-zero d.written),
        ap₂ (λ (cs : List Chain) (b : List ℕ). held cs h.counts b) (es ∙ cut-chains h.chains h.buffer s k)
            (eb ∙ cut-kept h.chains h.buffer s k),
        sym (written_none d.written text),
      )

  -- any line has room where it was asked for
  line-fits : ltb free (longest (length h.buffer)) ≡ false → d.written + length (line_at h s) ≤ length text
  line-fits e =
      let room : longest (length h.buffer) ≤ free = ltb-false free (longest (length h.buffer)) e in
      omega (arith, room, line-short h s)

  pub line-placed : (r : Collected) (b' : List ℕ) (end : Option ℕ) → r ≡ collected_at h s
      → b' ≡ buffer_of h.chains h.buffer s → ltb free (longest (length h.buffer)) ≡ false
      → end ≡ place_if_put text d.written (line_after h.chains r b') → is_some end ≡ true
  line-placed r b' end er eb e q = has_place text d.written (line_at h s) end (rw (er, eb) at q) (line-fits e)

  -- the line of the call that was made
  pub at_one : (r : Collected) (cs' : List Chain) (b' counts' text' : List ℕ) (end : ℕ) (done : Done)
      → r ≡ collected_at h s
      → cs' ≡ chains_of h.chains h.buffer s
      → b' ≡ buffer_of h.chains h.buffer s → ltb free (longest (length h.buffer)) ≡ false
      → (r.read ≡ 0 → ⊥)
      → (Some end ≡ place_if_put text d.written (line_after h.chains r b'))
      × (text' ≡ with_row text d.written (line_after h.chains r b'))
      → counts' ≡ counted h.counts (sort_of r.answer r.place)
      → done ≡ counting r.answer (d.read + r.read) end
      → At done (held cs' counts' b') text'
  unfolding gather
  at_one r cs' b' counts' text' end done er es eb e n l ec ed =
      let k = reads (chain_at (chain_of s) h.chains) (share h.buffer) s in
      let m : length (packet s) ≡ 0 → ⊥ = λ z. n (ap (λ (x : Collected). x.read) er ∙ k ∙ z) in
      let fit = line-fits e in
      let q : (Some end ≡ place_if_put text d.written (line_at h s)) × (text' ≡ with_row text d.written (line_at h s)) =
      rw (er, eb) at l in
      let y = rw (le-leb (length (line_at h s)) free (omega (arith, fit))) at q in
      rw (e, ne_eqb (length (packet s)) 0 m) (
        ed ∙ ap (λ (x : Collected). counting x.answer (d.read + x.read) end) er
            ∙ ap (λ (n : ℕ). counting (collected_at h s).answer (d.read + n) end) k
            ∙ ap (λ (n : ℕ). counting (collected_at h s).answer (d.read + length (packet s)) n)
            (ap (λ (o : Option ℕ). unwrap_or o 0) y.0),
        rw (ec, es, er, eb),
        y.1 ∙ sets-eq (line_at h s) text d.written (omega (arith, fit)),
      )

-- a run reads no more words than there are
pub run-read : (d : Done) (room : ℕ) (h : Held) (s : List ℕ) → d ≡ reported (gathering room h s) → d.read ≤ length s
unfolding gathering
run-read d room h s e = omega (arith, ap (λ (x : Done). x.read) e, words-read gather (room, h) s)
