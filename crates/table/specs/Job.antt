-- What is asked for over the table: one call, or a run (RULES 3 and 4).
use Rattle.std.specs.Prelude.{ℕ, Bool, true, false, cond, ◌&&◌, List, [], ◌∷◌, leb}
use Rattle.ump.specs.Packet.{packet}
use Rattle.stream.specs.declared.Done.{Done}
use Rattle.stream.specs.Call.{Call}
use Rattle.stream.specs.Report.{reported, reported_call}
use Rattle.stream.specs.Run.{Ran}
use Rattle.screen.specs.declared.Rule.{Rule}
use Rattle.screen.specs.Screen.{beginners_rule, open_rule}
use Rattle.channel.specs.declared.Record.{Record}
use Rattle.channel.specs.Record.{sound}
use Rattle.voice.specs.Packet.{call_by}
use Rattle.table.specs.Table.{one_by, run_by, table_by}
use Rattle.table.specs.declared.Job.{Job}

-- under a rule, asking each record whether it is sound
abbrev pub call_under : Rule → Job
call_under rule = record { once = true; known = false; rule = rule }

abbrev pub run_under : Rule → Job
run_under rule = record { once = false; known = false; rule = rule }

-- a run over records that are known to be sound (02 M-111)
abbrev pub known_run : Job
known_run = record { once = false; known = true; rule = open_rule }

-- whether every record of a table is sound
unfoldable pub all_sound : List Record → Bool
all_sound [] = true
all_sound (r ∷ t) = sound r && all_sound t

-- From so many words on, a run asks all records before its first packet, and knows them where all are sound
-- (02 M-112).
abbrev pub long_run : ℕ
long_run = 512

abbrev pub knows : ℕ → List Record → Bool
knows words t = leb long_run words && all_sound t

unfoldable pub run_told : ℕ → List Record → Job
run_told words t = record { once = false; known = knows words t; rule = open_rule }

-- a call and a run in the beginners' room (02 M-113)
abbrev pub beginners_call : Job
beginners_call = call_under beginners_rule

abbrev pub beginners_run : Job
beginners_run = run_under beginners_rule

-- what a packet does with its record, what a call does with the table, and what is asked of the words
unfoldable pub record_step : Job → Record → List ℕ → Call Record
record_step job = call_by job.rule job.known

unfoldable pub table_step : Job → List Record → List ℕ → Call (List Record)
table_step job = table_by job.rule job.known

abbrev pub asked_by : (List Record → List ℕ → Call (List Record)) → Bool → ℕ → List Record → List ℕ
    → Ran (ℕ × List Record)
asked_by step once room t s = cond once (one_by step room t s) (run_by step room t s)

unfoldable pub asked : Job → ℕ → List Record → List ℕ → Ran (ℕ × List Record)
asked job room t s = asked_by (table_step job) job.once room t s

-- what is reported of it: only a call alone has a place
abbrev pub asked_report : {T : Type 0} → Job → List ℕ → Ran T → Done
asked_report job s r = cond job.once (reported_call (packet s) r) (reported r)
