-- Which keys are down, against a definition that knows no record (RULES 5.7 and 5.8; 02 M-103): what the last accepted
-- message of a channel that speaks of a key says.
use Rattle.std.specs.Prelude.{ℕ, ◌<◌, ◌≤◌, ◌≡◌, Bool, false, cond, ◌&&◌, List, [], ◌∷◌, map, get_or, leb}
use Rattle.ump.specs.Packet.{cut, first}
use Rattle.stream.specs.Answers.{answered, taken_in}
use Rattle.stream.specs.Call.{answer_of, within}
use Rattle.stream.specs.Claims.{Made, calls}
use Rattle.keys.specs.declared.Keys.{Keys}
use Rattle.keys.specs.Keys.{down, least, tally}
use Rattle.keys.specs.History.{says_from}
use Rattle.channel.specs.declared.Record.{Record}
use Rattle.channel.specs.Record.{empty, fresh}
use Rattle.message.specs.Message.{Midi1, read1}
use Rattle.lift.specs.Played.{event}
use Rattle.table.specs.Table.{one_up, run_up, table_after, table_up}
use Rattle.pupil.specs.Only.{is_on, voice_on}
use Rattle.question.specs.Question.{keys_asked, lowest_told, place_asked}

-- an answer that accepts the packet: something was sent for it, or it was taken in
abbrev pub accepted : ℕ → Bool
accepted answer = leb answer taken_in

-- a call that accepted a MIDI 1.0 voice message of that group and channel
abbrev pub accepted_on : {T : Type 0} → ℕ → ℕ → Made T → Bool
accepted_on group channel m = accepted (answer_of m.call) && voice_on group channel (first m.packet)

-- Those messages, in order: of some calls; and of a run up over the words s, from the table t, in an output of so many
-- words, and of one call at them.
unfoldable pub messages_on : {T : Type 0} → ℕ → ℕ → List (Made T) → List Midi1
messages_on group channel [] = []
messages_on group channel (m ∷ ms) =
    cond (accepted_on group channel m) (read1 (first m.packet) ∷ messages_on group channel ms)
    (messages_on group channel ms)

unfoldable pub heard_on : ℕ → ℕ → ℕ → List Record → List ℕ → List Midi1
heard_on group channel room t s = messages_on group channel (calls (within table_up) (room, t) (cut s))

unfoldable pub heard_once : ℕ → ℕ → ℕ → List Record → List ℕ → List Midi1
heard_once group channel room t s =
    messages_on group channel (record { packet = s; call = within table_up (room, t) s } ∷ [])

-- whether the last of the messages that speaks of a key presses it; where none does, what was so before
abbrev pub said_of : ℕ → Bool → List Midi1 → Bool
said_of key before ms = says_from key before (map event ms)

-- the same where the key was up before
abbrev pub pressed_by : List Midi1 → ℕ → Bool
pressed_by ms key = said_of key false ms

-- the keys that a table keeps for a group and channel
abbrev pub keys_on : ℕ → ℕ → List Record → Keys
keys_on group channel t = (get_or t (place_asked group channel) empty).keys

-- Of a group and channel:
pub record PictureOn (group channel : ℕ) : Type 0 where
  -- after any stream from a fresh table a key is down exactly if the last accepted message that speaks of it presses it
  pub each : (room : ℕ) (s : List ℕ) (key : ℕ) → key < 128
      → down (keys_on group channel (table_after (run_up room fresh s))) key
      ≡ pressed_by (heard_on group channel room fresh s) key
  -- and the question answers how many such keys there are, and the lowest of them
  pub asked : (room : ℕ) (s : List ℕ)
      → let pressed = pressed_by (heard_on group channel room fresh s) in
      keys_asked (table_after (run_up room fresh s)) group channel
      ≡ record { answer = answered; down = tally pressed 128; lowest = lowest_told (least pressed 128) }
  -- So it goes on from any table, by a run and by one call: a key of which no accepted message speaks stays as it was.
  pub runs : (room : ℕ) (t : List Record) (s : List ℕ) (key : ℕ) → key < 128
      → down (keys_on group channel (table_after (run_up room t s))) key
      ≡ said_of key (down (keys_on group channel t) key) (heard_on group channel room t s)
  pub called : (room : ℕ) (t : List Record) (s : List ℕ) (key : ℕ) → key < 128
      → down (keys_on group channel (table_after (one_up room t s))) key
      ≡ said_of key (down (keys_on group channel t) key) (heard_once group channel room t s)
  -- A packet that is refused, for want of room too, changes no key, and neither does one of another group or channel.
  pub refused : (room : ℕ) (t : List Record) (s : List ℕ) → accepted (one_up room t s).answer ≡ false
      → keys_on group channel (table_after (one_up room t s)) ≡ keys_on group channel t
  pub others : (room : ℕ) (t : List Record) (s : List ℕ) → is_on group channel (first s) ≡ false
      → keys_on group channel (table_after (one_up room t s)) ≡ keys_on group channel t

abbrev pub Picture : Type 0
Picture = (group channel : ℕ) → group ≤ 15 → channel ≤ 15 → PictureOn group channel
