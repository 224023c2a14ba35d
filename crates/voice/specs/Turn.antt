-- A call in the middle of a stream: after what was read and written so far, into an output that may already hold words.
use Rattle.std.specs.Prelude.{ℕ, ◌+◌, ◌-◌, cond, List, drop, length, leb}
use Rattle.ground.specs.Store.{written}
use Rattle.ump.specs.Packet.{packet}
use Rattle.stream.specs.declared.Done.{Done}
use Rattle.stream.specs.Answers.{no_room, sent, taken_in}
use Rattle.stream.specs.Call.{Call, answer_of, fit, left_of, sent_of}
use Rattle.stream.specs.Report.{counting, further}
use Rattle.channel.specs.declared.Record.{Record}
use Rattle.effect.specs.declared.Effect.{Effect}
use Rattle.effect.specs.declared.Effect.TheVariants.{Leaves}
use Rattle.voice.specs.declared.EffectAndReport.{EffectAndReport}

-- the packet that is next
abbrev pub next : List ℕ → Done → List ℕ
next ws d = packet (drop d.read ws)

-- a call with the room that the output has after what was written so far
abbrev pub in_room : {T : Type 0} → Done → List ℕ → Call T → Call (ℕ × T)
in_room d out c = fit (length out - d.written) c

-- what is reported of the call c at the packet p, and what the output then holds
abbrev pub report_of : {T : Type 0} → Done → List ℕ → List ℕ → Call T → Done
report_of d p out c = further d p (in_room d out c)

abbrev pub output_of : {T : Type 0} → Done → List ℕ → Call T → List ℕ
output_of d out c = written d.written (sent_of (in_room d out c)) out

-- a packet has its effect only if it was sent or taken in
abbrev pub effect_by : {T : Type 0} → Effect → Call T → Effect
effect_by may c = cond (leb (answer_of c) taken_in) may Leaves

-- going up: what is then remembered, the effect on the record, and the report
abbrev pub turned : Done → List ℕ → List ℕ → Record → Effect → Call Record → EffectAndReport
turned d p out r may c =
    record {
      after = (left_of (length out - d.written, r) (in_room d out c)).1.memory;
      effect = effect_by may (in_room d out c);
      done = report_of d p out c;
    }

-- A row of words for an output from a place on, which holds them all or none; and what a packet of n words that sends
-- them comes to.
abbrev pub stored_in : ℕ → List ℕ → List ℕ → List ℕ
stored_in to out ws = cond (leb (length ws) (length out - to)) (written to ws out) out

abbrev pub report_after : Done → ℕ → List ℕ → List ℕ → Done
report_after d n out ws =
    cond (leb (length ws) (length out - d.written)) (counting sent (d.read + n) (d.written + length ws))
    (counting no_room d.read d.written)

abbrev pub output_after : Done → List ℕ → List ℕ → List ℕ
output_after d out ws = stored_in d.written out ws
