-- What the run over the table says at exit, from what `treat` says; and the call down at the start of the words.
-- Assumes nothing.
use mathlib.Core.Path.{◌≡◌, ap, ◌∙◌}
use Prim.Native.Nat.{ℕ}
use mathlib.Core.Bool.{Bool, cond}
use mathlib.Core.List.{List}
use native.Mathlib.Nat.{sub-zero, zero-add}
use lib.ListN.{length}
use Rattle.ground.specs.Store.{at_start}
use Rattle.ground.proofs.StoreLaws.{start-written}
use Rattle.ump.specs.Packet.{packet}
use Rattle.stream.specs.Call.{Call, fit, read_of, sent_of, within}
use Rattle.stream.specs.Report.{nothing_yet, reported, reported_call}
use Rattle.stream.specs.Run.{Ran}
use Rattle.screen.specs.declared.Rule.{Rule}
use Rattle.channel.specs.declared.Record.{Record}
use Rattle.voice.specs.Packet.{call_down_by, one_down_by, packet_down_by}
use Rattle.voice.specs.Turn.{next, output_of, report_of}
use Rattle.table.specs.Table.{run_up, table_after}
use Rattle.table.specs.Job.{asked, asked_report, run_told}
use Rattle.table.proofs.Asking.{told-once, told-run}

-- a run by the job that it is told, whether that knows the records or asks them
pub run-said : (ws : List ℕ) (tb : List Record) (out : List ℕ) → let j = run_told (length ws) tb in
    (asked_report j ws (asked j (length out) tb ws) ≡ reported (run_up (length out) tb ws))
    × (table_after (asked j (length out) tb ws) ≡ table_after (run_up (length out) tb ws))
    × (at_start (asked j (length out) tb ws).sends out ≡ at_start (run_up (length out) tb ws).sends out)
run-said ws tb out =
    let e = told-run (length ws) (length out) tb ws in
    let a : Ran (ℕ × List Record) = asked (run_told (length ws) tb) (length out) tb ws in (
      ap (λ (b : Bool). cond b (reported_call (packet ws) a) (reported a)) (told-once (length ws) tb) ∙ ap reported e,
      ap table_after e,
      ap (λ (r : Ran (ℕ × List Record)). at_start r.sends out) e,
    )

pub down-said : (rule : Rule) (ws out : List ℕ) → let p = next ws nothing_yet in
    (report_of nothing_yet p out (packet_down_by rule p) ≡ reported_call (packet ws) (one_down_by rule (length out) ws))
    × (output_of nothing_yet out (packet_down_by rule p) ≡ at_start (one_down_by rule (length out) ws).sends out)
unfolding one_down_by within call_down_by
down-said rule ws out =
    let c : Call (ℕ × Unit {0}) = fit (length out) (packet_down_by rule (packet ws)) in
    rw (sub-zero (length out)) (rw (zero-add (read_of (packet ws) c), zero-add (length (sent_of c))), start-written (sent_of c) out)
