-- The loop of `run_down`: one more call down, and what it makes of the run so far. Assumes nothing.
use Prim.Native.Nat.{ℕ, ◌+◌, ◌-◌, ◌<◌, ◌≤◌}
use mathlib.Core.Path.{◌≡◌, refl, sym, ◌∙◌}
use mathlib.Core.Bool.{false, cond}
use mathlib.Core.List.{List}
use native.Mathlib.Omega.{arith}
use lib.Dec.{eqb}
use lib.ListN.{drop, get_or, length, take}
use Rattle.ump.specs.Packet.{packet, size}
use Rattle.ump.proofs.PacketLaws.{packet-short, size-range}
use Rattle.stream.specs.declared.Done.{Done}
use Rattle.stream.specs.Answers.{cut_packet, no_room, sent}
use Rattle.stream.specs.Call.{within}
use Rattle.stream.specs.Report.{counting}
use Rattle.stream.proofs.RunLoop.{DidRun}
use Rattle.stream.proofs.Stateless.{So, one_more}
use Rattle.screen.specs.declared.Rule.{Rule}
use Rattle.voice.specs.Down.{none_fit, refused_down}
use Rattle.voice.specs.Packet.{call_down_by, packet_down_by, run_down_by}
use Rattle.voice.specs.Turn.{output_of, report_of}
use Rattle.voice.proofs.TurnLaws.{next-few}
use Rattle.voice.proofs.PacketLaws.{down-inside, down-near}
use Rattle.voice.proofs.DownLaws.{Sends, cut-output, cut-told, goes_further, next-length, next-some}
use Rattle.voice.proofs.DownLaws.{none-fit-told}
use Rattle.voice.proofs.DownLaws.{output-told, part-next}

-- what was done, and then the run down from here, is the whole run down
abbrev pub Downs : Rule → List ℕ → List ℕ → List ℕ → ℕ → ℕ → Type 0
Downs rule ws out₀ out i n = So (call_down_by rule) (down-near rule) (down-inside rule) ws out₀ out i n

-- what was reported before the call after i words were read and n written
abbrev past : ℕ → ℕ → Done
past i n = counting sent i n

-- one more call, with the output after it
module _ (rule : Rule) (ws out₀ out : List ℕ) (i n : ℕ) (inv : Downs rule ws out₀ out i n) (h : i < length ws)
    (after : List ℕ) where
  down_turn : (r : Done) → let p = packet (drop i ws) in
      r ≡ report_of (past i n) p out (packet_down_by rule p) → after ≡ output_of (past i n) out (packet_down_by rule p)
      → ((r.read ≡ i → ⊥) → Downs rule ws out₀ after r.read r.written × (i < r.read))
      × (r.read ≡ i → DidRun (run_down_by rule (length out₀) ws) out₀ r.answer r.read r.written tt after)
  unfolding within call_down_by run_down_by
  down_turn r e f = one_more (call_down_by rule) (down-near rule) (down-inside rule) ws out₀ out i n inv h r after e f

-- The packet at the place, of size m by its first word: it is cut, and stops the run; or it is whole, and what became
-- of it stops the run or lets it go on.
module _ (rule : Rule) (ws out₀ out : List ℕ) (i n : ℕ) (inv : Downs rule ws out₀ out i n) (h : i < length ws)
    (m : ℕ) (e : m ≡ size (get_or ws i 0)) where
  abbrev p : List ℕ
  p = packet (drop i ws)

  abbrev Ends : ℕ → List ℕ → Type 0
  Ends a after = DidRun (run_down_by rule (length out₀) ws) out₀ a i n tt after

  stops : (after : List ℕ) (a : ℕ) → counting a i n ≡ report_of (past i n) p out (packet_down_by rule p)
      → after ≡ output_of (past i n) out (packet_down_by rule p) → Ends a after
  stops after a f g = (down_turn rule ws out₀ out i n inv h after (counting a i n) f g).1 refl

  pub cut-stops : length ws - i < m → Ends cut_packet out
  cut-stops k =
      let none = packet-short ws i h (rw e at k) in
      stops out cut_packet (cut-told rule (past i n) p out none) (cut-output rule (past i n) p out none)

  module _ (k : m ≤ length ws - i) (r : ℕ) (after : List ℕ)
      (x : Sends rule n out (take (i + m - i) (drop i ws)) r after) where
    abbrev some : eqb (length p) 0 ≡ false
    some = next-some ws i m e h k

    sends : Sends rule n out p r after
    sends = rw (part-next ws i m e h k) at x

    holds : after ≡ output_of (past i n) out (packet_down_by rule p)
    holds = sends.1 ∙ output-told rule (past i n) p out some (next-few (drop i ws))

    pub full-stops : r ≡ none_fit → Ends no_room after
    full-stops q =
        stops after no_room (none-fit-told rule (past i n) p out some (next-few (drop i ws)) (sym sends.0 ∙ q)) holds

    pub moves : (r ≡ none_fit → ⊥) → Downs rule ws out₀ after (i + m) (n + cond (eqb r refused_down) 0 r)
    moves q =
        let g = goes_further rule (past i n) p out some (next-few (drop i ws)) (λ z. q (sends.0 ∙ z)) in
        let l = next-length ws i m e h k in
        let u : i + m ≡ (report_of (past i n) p out (packet_down_by rule p)).read = rw l at g.0 in
        let v : n + cond (eqb r refused_down) 0 r ≡ (report_of (past i n) p out (packet_down_by rule p)).written =
        rw sends.0 g.1 in
        rw (u, v)
        ((down_turn rule ws out₀ out i n inv h after (report_of (past i n) p out (packet_down_by rule p)) refl holds).0
        (λ z. omega (arith, u, z, e, size-range (get_or ws i 0)))).0
