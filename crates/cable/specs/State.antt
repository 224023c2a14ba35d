-- Bytes of a cable, and what is remembered of it between two of them (RULES 12.1 and 12.2; 01 "Layouts and rules for
-- later parts", cable bytes; 02 M-100).
use Rattle.std.specs.Prelude.{ℕ, ◌+◌, ◌*◌, ◌%◌, ◌^◌, Bool, true, false, cond, ◌&&◌, ◌||◌, List, [], ◌∷◌, eqb, leb, ltb, get_or, length, set}
use Rattle.cable.specs.declared.Cable.{Cable}

-- One of two by a test. Unlike `cond` it stays folded, so that a law can go by the ways of a call.
unfoldable pub pick : {A : Type 0} → Bool → A → A → A
pick true x y = x
pick false x y = y

-- the status byte of a channel voice message
abbrev pub voice_byte : ℕ → Bool
voice_byte b = leb 0x80 b && ltb b 0xF0

-- How many data bytes follow a status byte: one after C and D, F1 and F3; two after F2 and the other voices; none after
-- F0 and from F4 on.
unfoldable pub need : ℕ → ℕ
need b =
    cond (eqb b 0xF2) 2
    (cond (eqb b 0xF1 || (eqb b 0xF3 || (leb 0xC0 b && ltb b 0xE0))) 1 (cond (leb 0xF0 b) 0 2))

-- the word of a message that is no exclusive: MT 2 for a voice, and else MT 1
abbrev pub message_word : ℕ → ℕ → ℕ → ℕ → ℕ
message_word g b x y = cond (ltb b 0xF0) 2 1 * 2 ^ 28 + g % 16 * 2 ^ 24 + b * 2 ^ 16 + x * 2 ^ 8 + y

-- so many bytes in the six places, and 0 in those behind
abbrev pub places : List ℕ → List ℕ
places hs = get_or hs 0 0 ∷ get_or hs 1 0 ∷ get_or hs 2 0 ∷ get_or hs 3 0 ∷ get_or hs 4 0 ∷ get_or hs 5 0 ∷ []

-- A cable with the bytes hs held of the message that is open.
abbrev pub holding : ℕ → ℕ → ℕ → List ℕ → Cable
holding running status begun hs =
    record { running = running; status = status; begun = begun; count = length hs; held = places hs }

-- nothing is open
abbrev pub idle : ℕ → Cable
idle running = holding running 0 0 []

-- an exclusive is open
abbrev pub exclusive : ℕ → List ℕ → Cable
exclusive begun hs = holding 0 0xF0 begun hs

-- one more byte is held, in its place
abbrev pub pushed : ℕ → Cable → Cable
pushed byte s =
    record {
      running = s.running;
      status = s.status;
      begun = s.begun;
      count = s.count + 1;
      held = set s.held s.count byte;
    }

-- the byte at a place
abbrev pub held_at : Cable → ℕ → ℕ
held_at s k = get_or s.held k 0

-- the packet of an exclusive with all that is held: two words of MT 3
abbrev pub packet_of : ℕ → ℕ → Cable → List ℕ
packet_of g form s =
    (0x30000000 + g % 16 * 2 ^ 24 + form * 2 ^ 20 + s.count * 2 ^ 16 + held_at s 0 * 2 ^ 8 + held_at s 1)
    ∷ (held_at s 2 * 2 ^ 24 + held_at s 3 * 2 ^ 16 + held_at s 4 * 2 ^ 8 + held_at s 5)
    ∷ []

-- place k where n bytes are held: a data byte, and 0 behind them
abbrev pub slot : ℕ → ℕ → ℕ → Bool
slot n k x = leb x (cond (ltb k n) 127 0)

abbrev pub slot_at : Cable → ℕ → Bool
slot_at s k = slot s.count k (held_at s k)

-- the running status is that of a voice, or none
abbrev pub sound_running : Cable → Bool
sound_running s = eqb s.running 0 || voice_byte s.running

-- Nothing is open; or an exclusive, of which a packet goes out only with a byte behind it; or a message that waits for
-- a data byte, of a status byte or under running status.
abbrev pub sound_open : Cable → Bool
sound_open s =
    (eqb s.status 0 && (eqb s.count 0 && eqb s.begun 0))
    || ((eqb s.status 0xF0
    && (eqb s.running 0 && (leb s.count 6 && (leb s.begun 1 && leb s.begun s.count))))
    || ((leb 0x80 s.status && ltb s.status 0xF4)
    && (ltb s.count (need s.status)
    && (eqb s.begun 0 && (eqb s.running 0 || eqb s.running s.status)))))

abbrev pub sound_held : Cable → Bool
sound_held s =
    (slot_at s 0 && (slot_at s 1 && slot_at s 2)) && (slot_at s 3 && (slot_at s 4 && slot_at s 5))

unfoldable pub sound : Cable → Bool
sound s = sound_running s && (sound_open s && sound_held s)
