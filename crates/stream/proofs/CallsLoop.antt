-- The loop of a run of calls: one more call, from what is reported of it, and what it makes of the run so far. Assumes
-- nothing.
use Prim.Native.Nat.{ℕ, ◌+◌, ◌-◌, ◌<◌}
use mathlib.Core.Path.{◌≡◌, refl, ap, ◌∙◌}
use mathlib.Core.List.{List}
use native.Mathlib.Omega.{arith}
use lib.ListN.{drop, length}
use Rattle.ground.specs.Store.{written}
use Rattle.ump.specs.Packet.{packet}
use Rattle.stream.specs.declared.Done.{Done}
use Rattle.stream.specs.Answers.{sent}
use Rattle.stream.specs.Call.{Call, left_of, read_of, sent_of}
use Rattle.stream.specs.Calls.{OwnPacket, next_call, whole_run}
use Rattle.stream.specs.Report.{counting, further}
use Rattle.stream.proofs.RunLoop.{DidRun, Runs, turn}

module _ {T : Type 0} {step : T → List ℕ → Call T} (own : OwnPacket step) (ws : List ℕ) (t₀ : T) (out₀ : List ℕ) where
  -- what was done, and then the run from here, is the whole run
  abbrev pub So : T → List ℕ → ℕ → ℕ → Type 0
  So t out i n = Runs step own.alone own.whole t₀ ws out₀ t out i n

  module _ (t : T) (out : List ℕ) (i n : ℕ) (inv : So t out i n) (h : i < length ws) (r : Done) (t' : T)
      (after : List ℕ) where
    abbrev c : Call (ℕ × T)
    c = next_call step ws (counting sent i n) (length out) t

    pub one_more : r ≡ further (counting sent i n) (packet (drop i ws)) c → t' ≡ (left_of (length out - n, t) c).1
        → after ≡ written n (sent_of c) out
        → ((r.read ≡ i → ⊥) → So t' after r.read r.written × (i < r.read))
        × (r.read ≡ i → DidRun (whole_run step ws (length out₀) t₀) out₀ r.answer r.read r.written t' after)
    one_more e l f =
        let k = read_of (packet (drop i ws)) c in
        let m = length (sent_of c) in
        let er : r.read ≡ i + k = ap (λ (x : Done). x.read) e in
        let ew : r.written ≡ n + m = ap (λ (x : Done). x.written) e in
        let ea = ap (λ (x : Done). x.answer) e in
        let z = turn step own.alone own.whole t₀ ws out₀ t out i n r.answer k m t' after inv h
        (record { answers = ea; reads = refl; writes = refl; leaves = l; holds = f }) in (
          λ q. let x = z.0 (λ y. q (er ∙ omega (arith, y))) in (rw (er, ew) x.0, omega (arith, er, x.1)),
          λ q. let x = z.1 (omega (arith, er, q)) in
              let y : r.written ≡ n = omega (arith, ew, x.1) in
              rw (q, y) x.0,
        )
