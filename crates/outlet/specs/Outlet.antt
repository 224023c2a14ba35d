-- Packets into bytes (RULES 12.4; 02 M-100): the screening, the bytes of a packet, one call and a run.
use Rattle.std.specs.Prelude.{ℕ, Bool, cond, not, ◌&&◌, ◌||◌, List, [], ◌∷◌, ◌++◌, eqb, leb, ltb, length, take}
use Rattle.ump.specs.Word.{byte1, byte2, byte3, byte4, count, group_of, message_type, status}
use Rattle.ump.specs.Packet.{cut, first, packet, second}
use Rattle.fields.specs.Check.{checked_fields, good_status}
use Rattle.stream.specs.Answers.{cut_packet, not_for_cable, out_of_range, reserved_type, sent, taken_in}
use Rattle.stream.specs.Call.{Call, went, within}
use Rattle.stream.specs.Run.{Ran, called, run}
use Rattle.screen.specs.Screen.{Screened}
use Rattle.screen.specs.Screen.{answering, checking, goes_on, reserved, screened}
use Rattle.cable.specs.State.{need, pick}

-- MT 1, 2 or 3, and of the group, by its first word
abbrev pub ours : ℕ → ℕ → Bool
ours g w = (leb 1 (message_type w) && leb (message_type w) 3) && eqb (group_of w).0 g

-- Of a packet, or of the empty part where none is whole: 3, 4, 25, 6, 7.
unfoldable pub screen_out : ℕ → List ℕ → Screened
screen_out g p =
    cond (eqb (length p) 0) (answering cut_packet)
    (cond (reserved (message_type (first p))) (answering reserved_type)
    (cond (ours g (first p)) (checking (good_status (first p)) (checked_fields (first p) (second p)) goes_on)
    (answering not_for_cable)))

-- the bytes behind the status byte of the first word, and those of the second
abbrev pub six : ℕ → ℕ → List ℕ
six w v = byte3 w ∷ byte4 w ∷ byte1 v ∷ byte2 v ∷ byte3 v ∷ byte4 v ∷ []

-- How many of them a packet has: an exclusive's as it says, any other as its status byte has.
unfoldable pub amount : ℕ → ℕ
amount w = cond (eqb (message_type w) 3) (count w) (need (byte2 w))

unfoldable pub payload : ℕ → ℕ → List ℕ
payload w v = take (amount w) (six w v)

-- F0 before the complete and the start packet of an exclusive; the status byte before every other message
abbrev pub opens : ℕ → Bool
opens w = not (eqb (message_type w) 3) || leb (status w) 1

abbrev pub head_byte : ℕ → ℕ
head_byte w = cond (eqb (message_type w) 3) 0xF0 (byte2 w)

-- F7 behind the complete and the end packet
abbrev pub closes : ℕ → Bool
closes w = eqb (message_type w) 3 && (eqb (status w) 0 || eqb (status w) 3)

unfoldable pub bytes_of : ℕ → ℕ → List ℕ
bytes_of w v = pick (opens w) (head_byte w ∷ []) [] ++ payload w v ++ pick (closes w) (0xF7 ∷ []) []

-- a packet gives its bytes; one that has none, which only a continue has, is taken in
abbrev pub giving : List ℕ → Call (Unit {0})
giving bs = went (cond (eqb (length bs) 0) taken_in sent) bs tt

-- what a packet does, once it is screened
unfoldable pub packet_out : ℕ → List ℕ → Call (Unit {0})
packet_out g p = screened (screen_out g p) tt (giving (bytes_of (first p) (second p)))

-- the same of the packet that stands first in the words left
unfoldable pub step_out : ℕ → Unit {0} → List ℕ → Call (Unit {0})
step_out g t s = packet_out g (packet s)

-- a group above 15
abbrev pub no_group : ℕ → Ran (ℕ × Unit {0})
no_group room = record { answer = out_of_range; read = 0; sends = []; left = (room, tt) }

-- one call, and a run, in an output of so many bytes: 24 first
unfoldable pub one_out : ℕ → ℕ → List ℕ → Ran (ℕ × Unit {0})
one_out g room s =
    cond (ltb 15 g) (no_group room) (called (packet s) (room, tt) (within (step_out g) (room, tt) s))

unfoldable pub run_out : ℕ → ℕ → List ℕ → Ran (ℕ × Unit {0})
run_out g room s = cond (ltb 15 g) (no_group room) (run (within (step_out g)) (room, tt) (cut s))
