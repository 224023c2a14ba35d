-- The loop of a run that keeps no state: one more call, from what is reported of it, and what it makes of the run so
-- far. Assumes nothing.
use Prim.Native.Nat.{ℕ, ◌+◌, ◌-◌, ◌<◌}
use mathlib.Core.Path.{◌≡◌, refl, ap, ◌∙◌}
use mathlib.Core.List.{List, ◌∷◌}
use native.Mathlib.Omega.{arith}
use lib.ListN.{drop, length, take}
use Rattle.ground.specs.Store.{written}
use Rattle.ump.specs.Packet.{cut, packet, size}
use Rattle.stream.specs.declared.Done.{Done}
use Rattle.stream.specs.Answers.{sent}
use Rattle.stream.specs.Call.{Call, read_of, sent_of, within}
use Rattle.stream.specs.Report.{counting, further}
use Rattle.stream.specs.Run.{run}
use Rattle.stream.specs.Calls.{Inside}
use Rattle.stream.proofs.RunLoop.{DidRun, Runs, turn}

module _
    (step : Unit {0} → List ℕ → Call (Unit {0}))
    (near : (t : Unit {0}) (w : ℕ) (s : List ℕ) → step t (take (size w) (w ∷ s)) ≡ step t (w ∷ s))
    (inside : (t : Unit {0}) (w : ℕ) (s : List ℕ) → Inside (w ∷ s) (step t (w ∷ s)))
    (ws out₀ : List ℕ)
  where
    -- what was done, and then the run from here, is the whole run
    abbrev pub So : List ℕ → ℕ → ℕ → Type 0
    So out i n = Runs step near inside tt ws out₀ tt out i n

    module _ (out : List ℕ) (i n : ℕ) (inv : So out i n) (h : i < length ws) (r : Done) (after : List ℕ) where
      abbrev c : Call (ℕ × Unit {0})
      c = within step (length out - n, tt) (drop i ws)

      pub one_more : r ≡ further (counting sent i n) (packet (drop i ws)) c → after ≡ written n (sent_of c) out
          → ((r.read ≡ i → ⊥) → So after r.read r.written × (i < r.read))
          × (r.read ≡ i
          → DidRun (run (within step) (length out₀, tt) (cut ws)) out₀ r.answer r.read r.written tt after)
      one_more e f =
          let k = read_of (packet (drop i ws)) c in
          let m = length (sent_of c) in
          let er : r.read ≡ i + k = ap (λ (x : Done). x.read) e in
          let ew : r.written ≡ n + m = ap (λ (x : Done). x.written) e in
          let ea = ap (λ (x : Done). x.answer) e in
          let t = turn step near inside tt ws out₀ tt out i n r.answer k m tt after inv h
          (record { answers = ea; reads = refl; writes = refl; leaves = refl; holds = f }) in (
            λ z. let x = t.0 (λ q. z (er ∙ omega (arith, q))) in (rw (er, ew) x.0, omega (arith, er, x.1)),
            λ z. let x = t.1 (omega (arith, er, z)) in
                let y : r.written ≡ n = omega (arith, ew, x.1) in
                rw (z, y) x.0,
          )
