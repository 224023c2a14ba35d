-- What one byte does to a cable, before room is asked for (RULES 12.2; 01 "Layouts and rules for later parts", cable
-- bytes; 02 M-100).
use Rattle.std.specs.Prelude.{ℕ, cond, ◌||◌, List, [], ◌∷◌, eqb, leb, ltb}
use Rattle.stream.specs.Answers.{cut_off, dropped, sent, taken_in}
use Rattle.cable.specs.declared.Cable.{Cable}
use Rattle.cable.specs.declared.Heard.{Heard}
use Rattle.cable.specs.declared.Words.{Words}
use Rattle.cable.specs.declared.Words.TheVariants.{Nothing, One, Two}
use Rattle.cable.specs.State.{exclusive, held_at, holding, idle, message_word, need, packet_of, pick, pushed}

-- What a call comes to: its answer, how many bytes it reads, the words of the packet that it sends, if any, and the
-- cable after it.
pub record Call : Type 0 where
  pub answer : ℕ
  pub read : ℕ
  pub sends : List ℕ
  pub after : Cable

abbrev pub takes : Cable → Call
takes s = record { answer = taken_in; read = 1; sends = []; after = s }

abbrev pub sending : List ℕ → Cable → Call
sending ws s = record { answer = sent; read = 1; sends = ws; after = s }

abbrev pub drops : Cable → Call
drops s = record { answer = dropped; read = 1; sends = []; after = s }

-- the byte is not read
abbrev pub unread : ℕ → List ℕ → Cable → Call
unread answer ws s = record { answer = answer; read = 0; sends = ws; after = s }

-- the status of an exclusive's packet: the last is complete or the end, one before it the start or continues
abbrev pub last_form : ℕ → ℕ
last_form begun = cond (eqb begun 0) 0 3

abbrev pub more_form : ℕ → ℕ
more_form begun = cond (eqb begun 0) 1 2

-- F8 to FF: sent at once and nothing else changes; F9 and FD are dropped
unfoldable pub real_time_in : Cable → ℕ → ℕ → Call
real_time_in s g b = pick (eqb b 0xF9 || eqb b 0xFD) (drops s) (sending (message_word g b 0 0 ∷ []) s)

-- a data byte of an exclusive: the seventh sends the six before it
unfoldable pub exclusive_in : Cable → ℕ → ℕ → Call
exclusive_in s g b =
    pick (ltb s.count 6) (takes (pushed b s))
    (sending (packet_of g (more_form s.begun) s) (exclusive 1 (b ∷ [])))

-- the status that data bytes belong to, 0 for none: of the message that is open, or the running one
abbrev pub serving : Cable → ℕ
serving s = cond (eqb s.status 0) s.running s.status

-- the status that runs on after a message: of a voice its own, and of any other none
abbrev pub runs_on : ℕ → ℕ
runs_on status = cond (ltb status 0xF0) status 0

-- the first data byte of a message that has n: it is held where there are two
unfoldable pub first_in : Cable → ℕ → ℕ → ℕ → ℕ → Call
first_in s g status n b =
    pick (eqb n 2) (takes (holding s.running status 0 (b ∷ [])))
    (sending (message_word g status b 0 ∷ []) (idle (runs_on status)))

-- a data byte, with the status that it belongs to: dropped where there is none, the first, or the last
unfoldable pub message_in : Cable → ℕ → ℕ → ℕ → Call
message_in s g status b =
    pick (eqb status 0) (drops s)
    (pick (eqb s.count 0) (first_in s g status (need status) b)
    (sending (message_word g status (held_at s 0) b ∷ []) (idle (runs_on status))))

unfoldable pub data_in : Cable → ℕ → ℕ → Call
data_in s g b = pick (eqb s.status 0xF0) (exclusive_in s g b) (message_in s g (serving s) b)

-- a status byte below F8 where nothing is open: F0 to F7 end running status, F4, F5 and F7 are dropped
unfoldable pub status_in : ℕ → ℕ → Call
status_in g b =
    pick (eqb b 0xF0) (takes (exclusive 0 []))
    (pick (eqb b 0xF6) (sending (message_word g b 0 0 ∷ []) (idle 0))
    (pick (leb 0xF4 b) (drops (idle 0)) (takes (holding 0 b 0 []))))

-- one where an exclusive is open: its own end is read, and any other closes it and is left to the next call
unfoldable pub end_in : Cable → ℕ → ℕ → Call
end_in s g b =
    pick (eqb b 0xF7) (sending (packet_of g (last_form s.begun) s) (idle 0))
    (unread cut_off (packet_of g (last_form s.begun) s) (idle 0))

-- one where a shorter message is open: that is dropped, and the byte is left to the next call
abbrev pub short_in : Cable → Call
short_in s = unread dropped [] (idle s.running)

-- A byte: real time, data, or a status byte.
unfoldable pub byte_in : Cable → ℕ → ℕ → Call
byte_in s g b =
    pick (leb 0xF8 b) (real_time_in s g b)
    (pick (ltb b 0x80) (data_in s g b)
    (pick (eqb s.status 0) (status_in g b) (pick (eqb s.status 0xF0) (end_in s g b) (short_in s))))

-- the words that the code tells, and the call that it tells with them
abbrev pub words_of : Words → List ℕ
words_of Nothing = []
words_of (One w) = w ∷ []
words_of (Two w v) = w ∷ v ∷ []

abbrev pub told : Heard Cable → Call
told h = record { answer = h.answer; read = h.read; sends = words_of h.sends; after = h.after }
