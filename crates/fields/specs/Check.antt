-- What is checked of a packet's status and fields (RULES 2.2 and 2.3; 01 "What is checked"). A packet is given by its
-- first two words; the second is 0 where it has one word.
use Rattle.std.specs.Prelude.{ℕ, ◌+◌, ◌<◌, Bool, true, false, cond, not, ◌&&◌, ◌||◌, ◌≡◌, List, [], ◌∷◌, map, get_or, take, eqb, leb, Option, Some, None}
use Rattle.ump.specs.Packet.{first, second}
use Rattle.ump.specs.Word.{bank_flag, byte1, byte2, byte3, byte4, count, message_type, status, voice1, voice2}

-- system messages: the ten status bytes that there are
abbrev pub system_status : ℕ → Bool
system_status b =
    eqb b 0xF1 || eqb b 0xF2 || eqb b 0xF3 || eqb b 0xF6 || eqb b 0xF8 || eqb b 0xFA || eqb b 0xFB || eqb b 0xFC
    || eqb b 0xFE || eqb b 0xFF

abbrev pub voice1_status : ℕ → Bool
voice1_status w = leb 8 (status w) && leb (status w) 14

-- by message type; of the types that are not read every status is good
unfoldable pub good_status : ℕ → Bool
good_status w =
    cond (eqb (message_type w) 0) (leb (status w) 4)
    (cond (eqb (message_type w) 1) (system_status (byte2 w))
    (cond (eqb (message_type w) voice1) (voice1_status w)
    (cond (eqb (message_type w) 3) (leb (status w) 3)
    (cond (eqb (message_type w) voice2) (not (eqb (status w) 7)) true))))

-- A checked field: its value, and the most it may be.
pub record Field : Type 0 where
  pub value : ℕ
  pub most : ℕ

-- a field that is not above its most
abbrev pub good : Field → Bool
good f = leb f.value f.most

-- a data byte, a note, an index, a program
abbrev pub seven : ℕ → Field
seven x = record { value = x; most = 127 }

-- system messages: F1 and F3 are followed by one data byte, F2 by two, the others by none
unfoldable pub system_fields : ℕ → List Field
system_fields w =
    cond (eqb (byte2 w) 0xF1 || eqb (byte2 w) 0xF3) (seven (byte3 w) ∷ [])
    (cond (eqb (byte2 w) 0xF2) (seven (byte3 w) ∷ seven (byte4 w) ∷ []) [])

-- MIDI 1.0 voice: two data bytes, and one where the message is a program change or channel pressure
unfoldable pub voice1_fields : ℕ → List Field
voice1_fields w =
    cond (eqb (status w) 12 || eqb (status w) 13) (seven (byte3 w) ∷ []) (seven (byte3 w) ∷ seven (byte4 w) ∷ [])

-- exclusives: the count, and then as many bytes of the payload, which has its first two in the first word
abbrev pub count_field : ℕ → Field
count_field w = record { value = count w; most = 6 }

abbrev pub payload : ℕ → ℕ → List ℕ
payload w v = take (count w) (byte3 w ∷ byte4 w ∷ byte1 v ∷ byte2 v ∷ byte3 v ∷ byte4 v ∷ [])

unfoldable pub exclusive_fields : ℕ → ℕ → List Field
exclusive_fields w v = count_field w ∷ map seven (payload w v)

-- MIDI 2.0 voice. Statuses 2 to 5: bank and index. A program change: the program, and the bank halves that its flag
-- announces. Channel pressure and pitch bend: nothing. A control change: the index. All others: the note.
unfoldable pub voice2_fields : ℕ → ℕ → List Field
voice2_fields w v =
    cond (leb 2 (status w) && leb (status w) 5) (seven (byte3 w) ∷ seven (byte4 w) ∷ [])
    (cond (eqb (status w) 12)
    (seven (byte1 v) ∷ cond (eqb (bank_flag w) 1) (seven (byte3 v) ∷ seven (byte4 v) ∷ []) [])
    (cond (eqb (status w) 13 || eqb (status w) 14) [] (seven (byte3 w) ∷ [])))

-- the checked fields of a packet, in packet order
unfoldable pub checked_fields : ℕ → ℕ → List Field
checked_fields w v =
    cond (eqb (message_type w) 1) (system_fields w)
    (cond (eqb (message_type w) voice1) (voice1_fields w)
    (cond (eqb (message_type w) 3) (exclusive_fields w v)
    (cond (eqb (message_type w) voice2) (voice2_fields w v) [])))

-- the place of a field that stands behind a good one; 0 is no place
abbrev pub behind : ℕ → ℕ
behind n = cond (eqb n 0) 0 (n + 1)

-- The place of the first field above its most, from 1 in packet order; 0 where none is (RULES 2.4; 02 M-102).
unfoldable pub bad_place : List Field → ℕ
bad_place [] = 0
bad_place (f ∷ fs) = cond (good f) (behind (bad_place fs)) 1

-- that place as the code has it
abbrev pub place_found : ℕ → Option ℕ
place_found k = cond (eqb k 0) None (Some k)

-- none is above its most
abbrev pub good_fields : List Field → Bool
good_fields fs = eqb (bad_place fs) 0

-- the message types whose packets are passed on unchanged in both directions (RULES 1.2)
abbrev pub unchanged : ℕ → Bool
unchanged t = eqb t 0 || eqb t 1 || eqb t 3 || eqb t 5 || eqb t 13 || eqb t 15

-- such a packet in which nothing is bad
unfoldable pub good_unchanged : ℕ → ℕ → Bool
good_unchanged w v = unchanged (message_type w) && (good_status w && good_fields (checked_fields w v))

-- the same place, of a packet
abbrev pub bad_place_of : List ℕ → ℕ
bad_place_of p = bad_place (checked_fields (first p) (second p))

-- The field behind k others is bad, and those before it are good. Where the list is too short for it a good one stands
-- in.
abbrev pub FirstBad : List Field → ℕ → Type 0
FirstBad fs k = (good (get_or fs k (seven 0)) ≡ false) × ((i : ℕ) → i < k → good (get_or fs i (seven 0)) ≡ true)
