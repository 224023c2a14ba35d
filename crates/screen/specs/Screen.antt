-- The screening of a packet: the refusals before the act, in the order of RULES 3.2, with the rules of a room and of
-- a fence.
use Rattle.std.specs.Prelude.{ℕ, Bool, true, false, cond, not, ◌&&◌, ◌||◌, List, [], ◌∷◌, length, eqb, leb, Option, Some, None, Result, Ok, Err, is_some}
use Rattle.ump.specs.Word.{bits, data1, group_of, message_type, status, voice1, voice2}
use Rattle.ump.specs.Packet.{first, second}
use Rattle.stream.specs.Answers.{bad_data, bad_status, cut_packet, not_for_room, not_yours, reserved_type, wrong_protocol}
use Rattle.stream.specs.Call.{Call, refused}
use Rattle.screen.specs.declared.Rule.{Rule}
use Rattle.screen.specs.declared.Refusal.{Refusal}
use Rattle.fields.specs.Check.{Field, bad_place, checked_fields, good_status, voice1_fields, voice1_status}

-- What a packet is screened with: an answer, and the place of the first bad field, which is 0 with every answer but 7.
pub record Screened : Type 0 where
  pub answer : ℕ
  pub place : ℕ

-- a screening by its answer, without a place
abbrev pub answering : ℕ → Screened
answering a = record { answer = a; place = 0 }

-- the packet goes on to the act
abbrev pub goes_on : ℕ
goes_on = 0

-- what that is as a result: nothing where the packet goes on, and else what refuses it
abbrev pub judged : Screened → Result (Unit {0}) Refusal
judged s = cond (eqb s.answer goes_on) (Ok tt) (Err (record { answer = s.answer; place = s.place }))

-- The rules: nothing is asked of a packet beyond the check; that of the beginners' room (RULES 2.5; 02 M-113); and that
-- of a fence, behind which lie the groups whose bits are set in a number (RULES 2.6; 02 M-107).
abbrev pub open_rule : Rule
open_rule = record { beginners = false; fence = None }

abbrev pub beginners_rule : Rule
beginners_rule = record { beginners = true; fence = None }

abbrev pub fenced_rule : ℕ → Rule
fenced_rule groups = record { beginners = false; fence = Some groups }

-- the message types whose packets have a group
abbrev pub grouped : ℕ → Bool
grouped t = (leb 1 t && leb t 5) || eqb t 13

-- a group's bit
abbrev pub group_bit : ℕ → ℕ → Bool
group_bit groups g = eqb (bits g 1 groups) 1

-- a packet that has a group, and not one that lies behind the fence, by its first word
abbrev pub beyond : Option ℕ → ℕ → Bool
beyond None w = false
beyond (Some groups) w = grouped (message_type w) && not (group_bit groups (group_of w).0)

unfoldable pub outside : Rule → ℕ → Bool
outside rule w = beyond rule.fence w

-- the controllers of that room
abbrev pub beginners_controller : ℕ → Bool
beginners_controller i = eqb i 1 || eqb i 7 || eqb i 64 || eqb i 120 || eqb i 121 || eqb i 123

-- what passes there of all that is good, by its first word: MT 0, notes, bend and those controllers
unfoldable pub for_beginners : ℕ → Bool
for_beginners w =
    eqb (message_type w) 0
    || (eqb (message_type w) voice1
    && (eqb (status w) 8 || eqb (status w) 9 || eqb (status w) 14
    || (eqb (status w) 11 && beginners_controller (data1 w))))

-- what a good packet is answered with under a rule
unfoldable pub admitted : Rule → ℕ → ℕ
admitted rule w = cond rule.beginners (cond (for_beginners w) goes_on not_for_room) goes_on

-- by the place of the first bad field; 0 is no place, and then all is good
abbrev pub placed : ℕ → ℕ → Screened
placed k good = cond (eqb k 0) (answering good) (record { answer = bad_data; place = k })

-- the message types that are reserved (RULES 2.1; 01 "Packet sizes, in 32-bit words")
abbrev pub reserved : ℕ → Bool
reserved t = (leb 6 t && leb t 12) || eqb t 14

-- the check: the status first, and then the fields; `good` is the answer where nothing is bad
abbrev pub checking : Bool → List Field → ℕ → Screened
checking status_good fs good = cond (not status_good) (answering bad_status) (placed (bad_place fs) good)

-- no message type: where this is the wrong one, voice messages of both protocols pass
abbrev pub neither_type : ℕ
neither_type = 16

-- the message type that is the wrong one, where there is one
abbrev pub wrong_of : Option ℕ → ℕ
wrong_of None = neither_type
wrong_of (Some t) = t

-- Of a packet, or of the empty part where none is whole; `wrong` is the message type of the other protocol's voice
-- messages.
unfoldable pub screen_by : Rule → ℕ → List ℕ → Screened
screen_by rule wrong p =
    cond (eqb (length p) 0) (answering cut_packet)
    (cond (reserved (message_type (first p))) (answering reserved_type)
    (cond (eqb (message_type (first p)) wrong) (answering wrong_protocol)
    (cond (outside rule (first p)) (answering not_yours)
    (checking (good_status (first p)) (checked_fields (first p) (second p)) (admitted rule (first p))))))

-- where no rule holds
abbrev pub screen : ℕ → List ℕ → Screened
screen = screen_by open_rule

-- A MIDI 1.0 voice message is screened by its one word where a rule asks nothing, and else as a packet of that word.
unfoldable pub check_voice1 : ℕ → Screened
check_voice1 w = checking (voice1_status w) (voice1_fields w) goes_on

abbrev pub ruled : Rule → Bool
ruled rule = rule.beginners || is_some rule.fence

unfoldable pub screen_voice1 : Rule → ℕ → Screened
screen_voice1 rule w = cond (ruled rule) (screen_by rule voice2 (w ∷ [])) (check_voice1 w)

-- what a packet does in the state t, once it is screened: it is refused, or it acts
unfoldable pub screened : {T : Type 0} → Screened → T → Call T → Call T
screened s t act = cond (eqb s.answer goes_on) act (refused s.answer t)
