-- Two hosts on one box (RULES 2.6; 02 M-107): who owns a group, the rule of a host, and its calls.
use Rattle.std.specs.Prelude.{ℕ, zero, suc, Bool, false, cond, not, ◌&&◌, List, eqb, get_or, length}
use Rattle.keys.specs.Keys.{with_bit}
use Rattle.stream.specs.Answers.{not_yours}
use Rattle.stream.specs.Call.{Call}
use Rattle.stream.specs.Run.{Ran}
use Rattle.screen.specs.declared.Rule.{Rule}
use Rattle.screen.specs.Screen.{fenced_rule}
use Rattle.channel.specs.declared.Record.{Record}
use Rattle.channel.specs.Record.{empty}
use Rattle.voice.specs.Packet.{call_down_by, one_down_by, run_down_by}
use Rattle.table.specs.declared.Job.{Job}
use Rattle.table.specs.Table.{one_by, run_by, table_by}
use Rattle.question.specs.declared.KeysDown.{KeysDown}
use Rattle.question.specs.Question.{keys_told, place_asked, showing_none}
use Rattle.mark.specs.Mark.{mark_answer, named, table_marked, unnamed}
use Rattle.handover.specs.Handover.{is_host}

-- A host owns a group if the list has its number there; whoever is no host owns nothing. Past the list's end a group
-- belongs to nobody.
abbrev pub owns : ℕ → List ℕ → ℕ → Bool
owns host owners g = is_host host && eqb (get_or owners g 0) host

-- the groups below n that it owns, a bit for each
abbrev pub with_group : ℕ → ℕ → Bool → ℕ
with_group groups g mine = cond mine (with_bit groups g) groups

unfoldable pub groups_below : ℕ → List ℕ → ℕ → ℕ
groups_below host owners zero = 0
groups_below host owners (suc n) = with_group (groups_below host owners n) n (owns host owners n)

-- the fence of a host, around its groups
unfoldable pub host_rule : ℕ → List ℕ → Rule
host_rule host owners = fenced_rule (groups_below host owners 16)

-- One call and a run up under it, and what the loop over the table is told.
abbrev pub host_up : ℕ → List ℕ → List Record → List ℕ → Call (List Record)
host_up host owners = table_by (host_rule host owners) false

unfoldable pub host_one_up : ℕ → List ℕ → ℕ → List Record → List ℕ → Ran (ℕ × List Record)
host_one_up host owners room t s = one_by (host_up host owners) room t s

unfoldable pub host_run_up : ℕ → List ℕ → ℕ → List Record → List ℕ → Ran (ℕ × List Record)
host_run_up host owners room t s = run_by (host_up host owners) room t s

abbrev pub host_job : ℕ → List ℕ → Bool → Job
host_job host owners once = record { once = once; known = false; rule = host_rule host owners }

-- and down
abbrev pub host_down : ℕ → List ℕ → Unit {0} → List ℕ → Call (Unit {0})
host_down host owners = call_down_by (host_rule host owners)

abbrev pub host_one_down : ℕ → List ℕ → ℕ → List ℕ → Ran (ℕ × Unit {0})
host_one_down host owners = one_down_by (host_rule host owners)

abbrev pub host_run_down : ℕ → List ℕ → ℕ → List ℕ → Ran (ℕ × Unit {0})
host_run_down host owners = run_down_by (host_rule host owners)

-- Of a question and of a mark: a record is named, but its group is not the host's.
abbrev pub fenced : ℕ → List ℕ → ℕ → ℕ → ℕ → Bool
fenced host owners n group channel = named n group channel && not (owns host owners group)

-- the question: 10 and 24 as always, then 13
unfoldable pub host_keys_told : ℕ → List ℕ → ℕ → ℕ → ℕ → Record → KeysDown
host_keys_told host owners n group channel r =
    cond (fenced host owners n group channel) (showing_none not_yours) (keys_told n group channel r)

unfoldable pub host_keys_asked : ℕ → List ℕ → List Record → ℕ → ℕ → KeysDown
host_keys_asked host owners t group channel =
    host_keys_told host owners (length t) group channel (get_or t (place_asked group channel) empty)

-- a mark: 10 and 24, then 13, then 8; whether the host may mark a record, and the answer where it may not
abbrev pub may_mark : ℕ → List ℕ → ℕ → ℕ → ℕ → Bool
may_mark host owners n group channel = named n group channel && owns host owners group

abbrev pub unmarked : ℕ → ℕ → ℕ → ℕ
unmarked n group channel = cond (named n group channel) not_yours (unnamed n)

unfoldable pub host_mark_answer : ℕ → List ℕ → List Record → ℕ → ℕ → ℕ
host_mark_answer host owners t group channel =
    cond (fenced host owners (length t) group channel) not_yours (mark_answer t group channel)

unfoldable pub host_table_marked : ℕ → List ℕ → List Record → ℕ → ℕ → ℕ → List Record
host_table_marked host owners t group channel coarse =
    cond (fenced host owners (length t) group channel) t (table_marked t group channel coarse)
