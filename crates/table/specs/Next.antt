-- The call at the packet that is next, after what was reported so far: by any step, with any state (RULES 3).
use Rattle.std.specs.Prelude.{ℕ, ◌-◌, List, drop, length}
use Rattle.stream.specs.declared.Done.{Done}
use Rattle.stream.specs.Call.{Call, left_of, sent_of, within}
use Rattle.stream.specs.Report.{further}
use Rattle.channel.specs.declared.Record.{Record}
use Rattle.ground.specs.Store.{written}
use Rattle.voice.specs.declared.EffectAndReport.{EffectAndReport}
use Rattle.voice.specs.Packet.{effect_at}
use Rattle.voice.specs.Turn.{next, turned}

module _ {T : Type 0} (step : T → List ℕ → Call T) (ws : List ℕ) (d : Done) (t : T) (out : List ℕ) where
  abbrev pub call_at : Call (ℕ × T)
  call_at = within step (length out - d.written, t) (drop d.read ws)

  -- the report with it, the state that it leaves, and the output after it
  abbrev pub report_after_call : Done
  report_after_call = further d (next ws d) call_at

  abbrev pub state_after : T
  state_after = (left_of (length out - d.written, t) call_at).1

  abbrev pub output_after_call : List ℕ
  output_after_call = written d.written (sent_of call_at) out

-- with one record: what is then remembered, the effect on it, and the report
abbrev pub turn_at : (Record → List ℕ → Call Record) → List ℕ → Done → Record → List ℕ → EffectAndReport
turn_at step ws d r out = turned d (next ws d) out r (effect_at (next ws d)) (step r (drop d.read ws))
