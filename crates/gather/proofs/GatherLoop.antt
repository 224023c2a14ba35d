-- The loop over the packets: one more call, and what it makes of the run so far. Assumes nothing.
use Prim.Native.Nat.{ℕ, ◌+◌, ◌-◌, ◌≤◌, ◌<◌}
use mathlib.Core.Path.{◌≡◌, sym, ap, ap₂, ◌∙◌, subst}
use mathlib.Core.List.{List}
use native.Mathlib.Omega.{arith}
use native.Mathlib.Nat.{sub-zero}
use lib.ListN.{drop, length}
use Rattle.ground.specs.Store.{at_start, written}
use Rattle.ump.specs.Packet.{cut, packet}
use Rattle.stream.specs.declared.Done.{Done}
use Rattle.stream.specs.Answers.{sent}
use Rattle.stream.specs.Call.{Call, answer_of, left_of, read_of, sent_of, within}
use Rattle.stream.specs.Report.{counting, reported}
use Rattle.stream.specs.Run.{run}
use Rattle.stream.proofs.RunLaws.{ample}
use Rattle.stream.proofs.RunLoop.{DidRun, Runs, finish, turn}
use Rattle.stream.proofs.RunLoop as loop
use Rattle.gather.specs.Gather.{Held, gather, gathered_after, gathering}
use Rattle.gather.proofs.GatherLaws.{fit_same, fits, gather-inside, gather-near, left-room, sends-short}

module _ (h₀ : Held) (ws out₀ : List ℕ) where
  -- the loop's invariant: what was done, and then the run from here with the room that is left, is the whole run
  abbrev pub Gathers : Held → List ℕ → ℕ → ℕ → Type 0
  Gathers h out i n =
      Runs gather gather-near gather-inside (length out₀, h₀) ws out₀ (length out - n, h) out i n

  abbrev pub Done· : ℕ → ℕ → ℕ → Held → List ℕ → Type 0
  Done· a i n h out =
      (counting a i n ≡ reported (gathering (length out₀) h₀ ws)) × (h ≡ (gathering (length out₀) h₀ ws).left.1)
      × (out ≡ at_start (gathering (length out₀) h₀ ws).sends out₀)

  pub started : Gathers h₀ out₀ 0 0
  started =
      subst (λ (n : ℕ). Runs gather gather-near gather-inside (length out₀, h₀) ws out₀ (n, h₀) out₀ 0 0)
      (sym (sub-zero (length out₀)))
      (loop.start gather gather-near gather-inside (length out₀, h₀) ws out₀)

  -- what is told of a run that is done: the room was never asked in vain
  told : (a i n : ℕ) (t : ℕ × Held) (out : List ℕ)
      → DidRun (run (within gather) (length out₀, (length out₀, h₀)) (cut ws)) out₀ a i n t out → Done· a i n t.1 out
  unfolding gathering
  told a i n t out d =
      let e = ample gather (cut ws) (length out₀, h₀) (length out₀) (sends-short (cut ws) (length out₀, h₀)) in
      let f = rw e at d in
      (rw (f.answers, f.reads, f.writes), ap (λ (x : ℕ × Held). x.1) f.leaves, f.holds)

  pub finished : (h : Held) (out : List ℕ) (i n : ℕ) → Gathers h out i n → length ws ≤ i → Done· sent i n h out
  finished h out i n inv l =
      told sent i n (length out - n, h) out
      (finish gather gather-near gather-inside (length out₀, h₀) ws out₀ (length out - n, h) out i n inv l)

  module _ (h : Held) (out : List ℕ) (i n : ℕ) (inv : Gathers h out i n) (l : i < length ws) where
    abbrev t : ℕ × Held
    t = (length out - n, h)

    abbrev c : Call (ℕ × Held)
    c = gather t (drop i ws)

    pub one_more : (r : Done) (h' : Held) (after : List ℕ)
        → r ≡ gathered_after (counting sent i n) (packet (drop i ws)) c
        → h' ≡ (left_of t c).1 → after ≡ written n (sent_of c) out
        → ((r.read ≡ i → ⊥) → Gathers h' after r.read r.written × (i < r.read))
        × (r.read ≡ i → Done· r.answer i n h' after)
    unfolding within
    one_more r h' after e eh f =
        let p = packet (drop i ws) in
        let k = read_of p c in
        let m = length (sent_of c) in
        let er : r.read ≡ i + k = ap (λ (x : Done). x.read) e in
        let ew : r.written ≡ n + m = ap (λ (x : Done). x.written) e in
        let ea : r.answer ≡ answer_of c = ap (λ (x : Done). x.answer) e in
        let y = fit_same t p c (fits t (drop i ws)) in
        let z = turn gather gather-near gather-inside (length out₀, h₀) ws out₀ t out i n r.answer k m
        (left_of t c) after inv l
        (record {
          answers = ea ∙ sym y.0;
          reads = sym y.1;
          writes = ap length (sym y.2);
          leaves = sym y.3;
          holds = f ∙ rw y.2;
        }) in (
          λ q. again er ew (z.0 (λ o. q (er ∙ omega (arith, o)))),
          λ q. let v = z.1 (omega (arith, er, q)) in
              let w = told r.answer i n (left_of t c) after v.0 in (w.0, eh ∙ w.1, w.2),
        )
      where
        again : r.read ≡ i + read_of (packet (drop i ws)) c → r.written ≡ n + length (sent_of c)
            → Runs gather gather-near gather-inside (length out₀, h₀) ws out₀ (left_of t c) after
            (i + read_of (packet (drop i ws)) c) (n + length (sent_of c)) × (1 ≤ read_of (packet (drop i ws)) c)
            → Gathers h' after r.read r.written × (i < r.read)
        again er ew x =
            let room : (left_of t c).0 ≡ length after - (n + length (sent_of c)) =
            left-room t c (fits t (drop i ws)) ∙ omega (arith, x.0.long, inv.long) in
            let same : left_of t c ≡ (length after - (n + length (sent_of c)), h') =
            ap₂ (λ (a : ℕ) (b : Held). (a, b)) room (sym eh) in
            (rw (er, ew) (rw same at x.0), omega (arith, er, x.1))
