-- Two hosts on one box (RULES 2.6, 5.10 and 9.4; 02 M-107): what is refused to a host, that neither sees anything of
-- the other, what a change of hands leaves, and demands 2 and 3 for one host.
use Rattle.std.specs.Prelude.{ℕ, ◌/◌, ◌≡◌, Bool, true, false, cond, not, ◌&&◌, List, [], ◌∷◌, ◌++◌, get_or, length, eqb, leb, ltb}
use Rattle.ump.specs.Word.{group_of, message_type, place_of, voice1, voice2}
use Rattle.ump.specs.Packet.{cut, first, packet, second}
use Rattle.stream.specs.declared.Done.{Done}
use Rattle.stream.specs.Answers.{bad_data, bad_status, cut_packet, no_form, no_room, no_table, not_sound, not_yours}
use Rattle.stream.specs.Answers.{out_of_range}
use Rattle.stream.specs.Answers.{reserved_type, taken_in, wrong_protocol}
use Rattle.stream.specs.Call.{answer_of, left_of, sent_of, within}
use Rattle.stream.specs.Report.{reported, reported_call}
use Rattle.stream.specs.Run.{run}
use Rattle.fields.specs.Check.{checked_fields, good_fields, good_status}
use Rattle.screen.specs.Screen.{grouped, reserved}
use Rattle.channel.specs.declared.Record.{Record}
use Rattle.channel.specs.Record.{EmptyButMarks, empty, sound, whole_table}
use Rattle.message.specs.Message.{read2}
use Rattle.lower.specs.Lower.{lower}
use Rattle.table.specs.Table.{table_after}
use Rattle.question.specs.declared.KeysDown.{KeysDown}
use Rattle.question.specs.Question.{in_range, place_asked}
use Rattle.handover.specs.Handover.{changes_hands, give_answer, owners_after, table_given}
use Rattle.hosts.specs.Hosts.{host_down, host_keys_asked, host_mark_answer, host_one_down, host_one_up, host_run_down, host_run_up}
use Rattle.hosts.specs.Hosts.{host_table_marked, host_up, owns}
use Rattle.claims.specs.PacketByPacket.{ByPackets}
use Rattle.stream.specs.Cases.{Case, case, numbered}
use Rattle.claims.specs.Refusals.{ByAnswer}
use Rattle.claims.specs.Room.{Roomy}
use Rattle.claims.specs.RoundTrip.{Gated, ReturnsBy}

-- a packet that has a group, and not one of the host's
abbrev pub foreign : ℕ → List ℕ → List ℕ → Bool
foreign host owners p = grouped (message_type (first p)) && not (owns host owners (group_of (first p)).0)

-- the cases that both directions have for a host, at the packet p: 3, 4, 5, 13, 6, 7
abbrev pub cases_fenced : ℕ → List ℕ → ℕ → List ℕ → List Case
cases_fenced host owners wrong p =
    case cut_packet (eqb (length p) 0)
    ∷ case reserved_type (reserved (message_type (first p)))
    ∷ case wrong_protocol (eqb (message_type (first p)) wrong)
    ∷ case not_yours (foreign host owners p)
    ∷ case bad_status (not (good_status (first p)))
    ∷ case bad_data (not (good_fields (checked_fields (first p) (second p))))
    ∷ []

-- going up: 10, those, 8, 9, 1; and down: those, 2, 9
abbrev pub cases_host_up : ℕ → List ℕ → ℕ → List Record → List ℕ → List Case
cases_host_up host owners room t s =
    let p = packet s in
    case no_table (not (eqb (length t) whole_table))
    ∷ cases_fenced host owners voice2 p
    ++ case not_sound (eqb (message_type (first p)) voice1 && not (sound (get_or t (place_of (first s)) empty)))
    ∷ case no_room (ltb room (length (sent_of (host_up host owners t s))))
    ∷ case taken_in (eqb (length (sent_of (host_up host owners t s))) 0)
    ∷ []

abbrev pub cases_host_down : ℕ → List ℕ → ℕ → List ℕ → List Case
cases_host_down host owners room s =
    let p = packet s in
    cases_fenced host owners voice1 p
    ++ case no_form (eqb (message_type (first p)) voice2 && eqb (length (lower (read2 (first p) (second p)))) 0)
    ∷ case no_room (ltb room (length (sent_of (host_down host owners tt s))))
    ∷ []

-- of a question: 10, 24, 13; of a mark: those, and then 8; of giving a group: 10, 24
abbrev pub cases_named : ℕ → List ℕ → List Record → ℕ → ℕ → List Case
cases_named host owners t group channel =
    case no_table (not (eqb (length t) whole_table))
    ∷ case out_of_range (not (in_range group channel))
    ∷ case not_yours (not (owns host owners group))
    ∷ []

abbrev pub cases_host_mark : ℕ → List ℕ → List Record → ℕ → ℕ → List Case
cases_host_mark host owners t group channel =
    cases_named host owners t group channel
    ++ case not_sound (not (sound (get_or t (place_asked group channel) empty))) ∷ []

abbrev pub cases_give : List ℕ → List Record → ℕ → ℕ → List Case
cases_give owners t group host =
    case no_table (not (eqb (length t) whole_table))
    ∷ case out_of_range (not (leb group 15 && ltb group (length owners) && leb host 2))
    ∷ []

-- What happens at the box: a host calls or runs, up or down, with an output of so many words; it asks for keys; it
-- marks a channel; or, between all that, a group is given to a host.
pub data Event : Type 0 where
  call_up run_up call_down run_down : ℕ → ℕ → List ℕ → Event
  asks : ℕ → ℕ → ℕ → Event
  marks : ℕ → ℕ → ℕ → ℕ → Event
  gives : ℕ → ℕ → Event

-- whose event it is; a change of hands is nobody's, and counts for both
abbrev pub is_by : ℕ → Event → Bool
is_by h (call_up host room s) = eqb host h
is_by h (run_up host room s) = eqb host h
is_by h (call_down host room s) = eqb host h
is_by h (run_down host room s) = eqb host h
is_by h (asks host group channel) = eqb host h
is_by h (marks host group channel coarse) = eqb host h
is_by h (gives group host) = false

abbrev pub counts : ℕ → Event → Bool
counts h (call_up host room s) = eqb host h
counts h (run_up host room s) = eqb host h
counts h (call_down host room s) = eqb host h
counts h (run_down host room s) = eqb host h
counts h (asks host group channel) = eqb host h
counts h (marks host group channel coarse) = eqb host h
counts h (gives group host) = true

-- the owner list and the table that the hosts share, and what an event leaves of them
pub record Box : Type 0 where
  pub owners : List ℕ
  pub table : List Record

abbrev pub box_after : Box → Event → Box
box_after b (call_up host room s) =
    record { owners = b.owners; table = table_after (host_one_up host b.owners room b.table s) }
box_after b (run_up host room s) =
    record { owners = b.owners; table = table_after (host_run_up host b.owners room b.table s) }
box_after b (call_down host room s) = b
box_after b (run_down host room s) = b
box_after b (asks host group channel) = b
box_after b (marks host group channel coarse) =
    record { owners = b.owners; table = host_table_marked host b.owners b.table group channel coarse }
box_after b (gives group host) =
    record {
      owners = owners_after b.owners (length b.table) group host;
      table = table_given b.owners b.table group host;
    }

-- what the host sees of its event: a report and the words sent, keys, or an answer
pub data Seen : Type 0 where
  told : Done → List ℕ → Seen
  shown : KeysDown → Seen
  answered : ℕ → Seen

abbrev pub seen : Box → Event → Seen
seen b (call_up host room s) =
    let r = host_one_up host b.owners room b.table s in told (reported_call (packet s) r) r.sends
seen b (run_up host room s) = let r = host_run_up host b.owners room b.table s in told (reported r) r.sends
seen b (call_down host room s) =
    let r = host_one_down host b.owners room s in told (reported_call (packet s) r) r.sends
seen b (run_down host room s) = let r = host_run_down host b.owners room s in told (reported r) r.sends
seen b (asks host group channel) = shown (host_keys_asked host b.owners b.table group channel)
seen b (marks host group channel coarse) = answered (host_mark_answer host b.owners b.table group channel)
seen b (gives group host) = answered (give_answer b.owners (length b.table) group host)

-- A history: the box after it, what host h sees in it, and those of its events that count for h.
unfoldable pub box_at : Box → List Event → Box
box_at b [] = b
box_at b (e ∷ es) = box_at (box_after b e) es

unfoldable pub sees : ℕ → Box → List Event → List Seen
sees h b [] = []
sees h b (e ∷ es) = cond (is_by h e) (seen b e ∷ sees h (box_after b e) es) (sees h (box_after b e) es)

unfoldable pub counting : ℕ → List Event → List Event
counting h [] = []
counting h (e ∷ es) = cond (counts h e) (e ∷ counting h es) (counting h es)

-- two boxes with the same owners and tables of the same length that agree on the groups of host h
pub record Agree (h : ℕ) (b c : Box) : Type 0 where
  pub same_owners : b.owners ≡ c.owners
  pub same_length : length b.table ≡ length c.table
  pub same_records : (k : ℕ) → owns h b.owners (k / 16) ≡ true → get_or b.table k empty ≡ get_or c.table k empty

-- Whatever else happens at two boxes that agree on h's groups, if what counts for h is the same, h sees the same in
-- both, and they agree on its groups at the end.
abbrev pub Apart : Type 0
Apart =
    (h : ℕ) (b c : Box) → Agree h b c → (es fs : List Event) → counting h es ≡ counting h fs
    → (sees h b es ≡ sees h c fs) × Agree h (box_at b es) (box_at c fs)

-- A group that is given to another than has it has sixteen empty records then, whatever they held; all else stays.
pub record ChangeOfHands (owners : List ℕ) (t : List Record) (group host : ℕ) : Type 0 where
  pub fresh : changes_hands owners (length t) group host ≡ true → (k : ℕ) → k / 16 ≡ group
      → get_or (table_given owners t group host) k empty ≡ empty
  pub others : (k : ℕ) → (k / 16 ≡ group → ⊥)
      → get_or (table_given owners t group host) k empty ≡ get_or t k empty
  pub owner : (i : ℕ) → (i ≡ group → ⊥)
      → get_or (owners_after owners (length t) group host) i 0 ≡ get_or owners i 0
  pub table : length (table_given owners t group host) ≡ length t
  pub stays : changes_hands owners (length t) group host ≡ false
      → (table_given owners t group host ≡ t) × (owners_after owners (length t) group host ≡ owners)

-- Of one host under one owner list:
pub record OneHost (host : ℕ) (owners : List ℕ) : Type 0 where
  -- each number is answered exactly in its case, and what each answer reads, sends and leaves is as everywhere
  pub up : (room : ℕ) (t : List Record) (s : List ℕ)
      → answer_of (within (host_up host owners) (room, t) s) ≡ numbered (cases_host_up host owners room t s)
  pub down : (room : ℕ) (s : List ℕ)
      → answer_of (within (host_down host owners) (room, tt) s) ≡ numbered (cases_host_down host owners room s)
  pub after_up : (room : ℕ) (t : List Record) (s : List ℕ)
      → ByAnswer (room, t) s (within (host_up host owners) (room, t) s)
  pub after_down : (room : ℕ) (s : List ℕ) → ByAnswer (room, tt) s (within (host_down host owners) (room, tt) s)
  pub records : (room : ℕ) (t : List Record) (s : List ℕ) (k : ℕ) → (k ≡ place_of (first s) → ⊥)
      → get_or (left_of (room, t) (within (host_up host owners) (room, t) s)).1 k empty ≡ get_or t k empty
  pub question : (t : List Record) (group channel : ℕ)
      → (host_keys_asked host owners t group channel).answer ≡ numbered (cases_named host owners t group channel)
  pub mark : (t : List Record) (group channel : ℕ)
      → host_mark_answer host owners t group channel ≡ numbered (cases_host_mark host owners t group channel)
  -- what is not foreign goes up as before; all else sends nothing and changes nothing
  pub gate : Gated (λ p. not (foreign host owners p)) (host_up host owners)
  -- demand 2: runs are their calls, both ways
  pub up_packets : ByPackets (within (host_up host owners))
  pub down_packets : ByPackets (within (host_down host owners))
  pub up_runs : (room : ℕ) (t : List Record) (s : List ℕ) → length t ≡ whole_table
      → host_run_up host owners room t s ≡ run (within (host_up host owners)) (room, t) (cut s)
  pub down_runs : (room : ℕ) (s : List ℕ)
      → host_run_down host owners room s ≡ run (within (host_down host owners)) (room, tt) (cut s)
  pub up_room : Roomy (host_up host owners)
  pub down_room : Roomy (host_down host owners)
  -- demand 3, with the fence in all three passes
  pub returns : (t : List Record) → EmptyButMarks t → ReturnsBy (host_run_up host owners) (host_run_down host owners) t

pub record TwoHosts : Type 0 where
  pub apart : Apart
  pub hands : (owners : List ℕ) (t : List Record) (group host : ℕ) → ChangeOfHands owners t group host
  pub giving : (owners : List ℕ) (t : List Record) (group host : ℕ)
      → give_answer owners (length t) group host ≡ numbered (cases_give owners t group host)
  pub each : (host : ℕ) (owners : List ℕ) → OneHost host owners
