-- Channel voice messages of the two protocols (RULES 1.1, 6.6 and 8; 004 sections 7.3 and 7.4), read from the words of
-- a checked packet and written to words.
use Rattle.std.specs.Prelude.{ℕ, ◌+◌, ◌*◌, ◌/◌, ◌%◌, ◌^◌, ◌<◌, ◌≤◌, Bool, cond, ◌&&◌, ◌||◌, ◌≡◌, List, [], ◌∷◌, eqb, leb}
use Rattle.ump.specs.declared.Group.{Group}
use Rattle.ump.specs.declared.Channel.{Channel}
use Rattle.ump.specs.Word.{bank_flag, bits, byte1, byte3, byte4, channel_of, data1, data2, group_of, message_type, status}
use Rattle.ump.specs.Word.{voice1, voice2}

-- MIDI 1.0. Notes and controllers: number, then value. A pitch bend has its 14-bit value.
pub data Midi1 : Type 0 where
  note_off1 note_on1 poly_pressure1 control_change1 : ℕ → ℕ → Midi1
  program_change1 channel_pressure1 pitch_bend1 : ℕ → Midi1

-- the bank of a program change: high and low, where the bank flag is set
pub data Bank : Type 0 where
  no_bank : Bank
  bank : ℕ → ℕ → Bank

-- MIDI 2.0. Note off and note on: note, velocity of 16 bits; the attributes of a note are not kept. Controllers of a
-- note and of an address: note or bank, index, value. Per-note management: note, flags.
pub data Midi2 : Type 0 where
  registered_per_note2 assignable_per_note2 registered2 assignable2 : ℕ → ℕ → ℕ → Midi2
  relative_registered2 relative_assignable2 : ℕ → ℕ → ℕ → Midi2
  per_note_pitch_bend2 note_off2 note_on2 poly_pressure2 control_change2 per_note_management2 : ℕ → ℕ → Midi2
  program_change2 : ℕ → Bank → Midi2
  channel_pressure2 pitch_bend2 : ℕ → Midi2

-- the controllers that are only a part of a message: of a bank, an address, or the data for an address (RULES 6.3)
abbrev pub part : ℕ → Bool
part i = eqb i 0 || eqb i 6 || eqb i 32 || eqb i 38 || (leb 96 i && leb i 101)

-- a word of message type t, group g, status s, channel c and two bytes
abbrev pub voice_word : ℕ → Group → ℕ → Channel → ℕ → ℕ → ℕ
voice_word t g s c a b = t * 2 ^ 28 + g.0 * 2 ^ 24 + s * 2 ^ 20 + c.0 * 2 ^ 16 + a * 2 ^ 8 + b

-- MIDI 1.0, by the status 8 to E; the first data byte of a pitch bend is the low half of its value
unfoldable pub read1 : ℕ → Midi1
read1 w =
    cond (eqb (status w) 8) (note_off1 (data1 w) (data2 w))
    (cond (eqb (status w) 9) (note_on1 (data1 w) (data2 w))
    (cond (eqb (status w) 10) (poly_pressure1 (data1 w) (data2 w))
    (cond (eqb (status w) 11) (control_change1 (data1 w) (data2 w))
    (cond (eqb (status w) 12) (program_change1 (data1 w))
    (cond (eqb (status w) 13) (channel_pressure1 (data1 w))
    (pitch_bend1 (data2 w * 128 + data1 w)))))))

unfoldable pub write1 : Group → Channel → Midi1 → ℕ
write1 g c (note_off1 n v) = voice_word voice1 g 8 c n v
write1 g c (note_on1 n v) = voice_word voice1 g 9 c n v
write1 g c (poly_pressure1 n v) = voice_word voice1 g 10 c n v
write1 g c (control_change1 i v) = voice_word voice1 g 11 c i v
write1 g c (program_change1 p) = voice_word voice1 g 12 c p 0
write1 g c (channel_pressure1 v) = voice_word voice1 g 13 c v 0
write1 g c (pitch_bend1 v) = voice_word voice1 g 14 c (v % 128) (v / 128)

-- MIDI 2.0: w the first word, v the second, by the layouts of RULES 6.6 (01 "What is checked")
unfoldable pub bank_of : ℕ → ℕ → Bank
bank_of w v = cond (eqb (bank_flag w) 1) (bank (byte3 v) (byte4 v)) no_bank

unfoldable pub read2 : ℕ → ℕ → Midi2
read2 w v =
    cond (eqb (status w) 0) (registered_per_note2 (byte3 w) (byte4 w) v)
    (cond (eqb (status w) 1) (assignable_per_note2 (byte3 w) (byte4 w) v)
    (cond (eqb (status w) 2) (registered2 (byte3 w) (byte4 w) v)
    (cond (eqb (status w) 3) (assignable2 (byte3 w) (byte4 w) v)
    (cond (eqb (status w) 4) (relative_registered2 (byte3 w) (byte4 w) v)
    (cond (eqb (status w) 5) (relative_assignable2 (byte3 w) (byte4 w) v)
    (cond (eqb (status w) 6) (per_note_pitch_bend2 (byte3 w) v)
    (cond (eqb (status w) 8) (note_off2 (byte3 w) (bits 16 16 v))
    (cond (eqb (status w) 9) (note_on2 (byte3 w) (bits 16 16 v))
    (cond (eqb (status w) 10) (poly_pressure2 (byte3 w) v)
    (cond (eqb (status w) 11) (control_change2 (byte3 w) v)
    (cond (eqb (status w) 12) (program_change2 (byte1 v) (bank_of w v))
    (cond (eqb (status w) 13) (channel_pressure2 v)
    (cond (eqb (status w) 14) (pitch_bend2 v)
    (per_note_management2 (byte3 w) (byte4 w)))))))))))))))

-- What is not said by the message is 0: reserved bits, unused bytes and the attributes of a note.
unfoldable pub first2 : Group → Channel → Midi2 → ℕ
first2 g c (registered_per_note2 n i v) = voice_word voice2 g 0 c n i
first2 g c (assignable_per_note2 n i v) = voice_word voice2 g 1 c n i
first2 g c (registered2 b i v) = voice_word voice2 g 2 c b i
first2 g c (assignable2 b i v) = voice_word voice2 g 3 c b i
first2 g c (relative_registered2 b i v) = voice_word voice2 g 4 c b i
first2 g c (relative_assignable2 b i v) = voice_word voice2 g 5 c b i
first2 g c (per_note_pitch_bend2 n v) = voice_word voice2 g 6 c n 0
first2 g c (note_off2 n v) = voice_word voice2 g 8 c n 0
first2 g c (note_on2 n v) = voice_word voice2 g 9 c n 0
first2 g c (poly_pressure2 n v) = voice_word voice2 g 10 c n 0
first2 g c (control_change2 i v) = voice_word voice2 g 11 c i 0
first2 g c (per_note_management2 n f) = voice_word voice2 g 15 c n f
first2 g c (program_change2 p no_bank) = voice_word voice2 g 12 c 0 0
first2 g c (program_change2 p (bank h l)) = voice_word voice2 g 12 c 0 1
first2 g c (channel_pressure2 v) = voice_word voice2 g 13 c 0 0
first2 g c (pitch_bend2 v) = voice_word voice2 g 14 c 0 0

unfoldable pub second2 : Midi2 → ℕ
second2 (registered_per_note2 n i v) = v
second2 (assignable_per_note2 n i v) = v
second2 (registered2 b i v) = v
second2 (assignable2 b i v) = v
second2 (relative_registered2 b i v) = v
second2 (relative_assignable2 b i v) = v
second2 (per_note_pitch_bend2 n v) = v
second2 (note_off2 n v) = v * 2 ^ 16
second2 (note_on2 n v) = v * 2 ^ 16
second2 (poly_pressure2 n v) = v
second2 (control_change2 i v) = v
second2 (per_note_management2 n f) = 0
second2 (program_change2 p no_bank) = p * 2 ^ 24
second2 (program_change2 p (bank h l)) = p * 2 ^ 24 + h * 2 ^ 8 + l
second2 (channel_pressure2 v) = v
second2 (pitch_bend2 v) = v

abbrev pub write2 : Group → Channel → Midi2 → List ℕ
write2 g c m = first2 g c m ∷ second2 m ∷ []

-- messages whose numbers fit their places
abbrev pub Fits1 : Midi1 → Type 0
Fits1 (note_off1 n v) = (n ≤ 127) × (v ≤ 127)
Fits1 (note_on1 n v) = (n ≤ 127) × (v ≤ 127)
Fits1 (poly_pressure1 n v) = (n ≤ 127) × (v ≤ 127)
Fits1 (control_change1 i v) = (i ≤ 127) × (v ≤ 127)
Fits1 (program_change1 p) = p ≤ 127
Fits1 (channel_pressure1 v) = v ≤ 127
Fits1 (pitch_bend1 v) = v ≤ 16383

abbrev pub Fits2 : Midi2 → Type 0
Fits2 (registered_per_note2 n i v) = (n ≤ 255) × (i ≤ 255)
Fits2 (assignable_per_note2 n i v) = (n ≤ 255) × (i ≤ 255)
Fits2 (registered2 b i v) = (b ≤ 255) × (i ≤ 255)
Fits2 (assignable2 b i v) = (b ≤ 255) × (i ≤ 255)
Fits2 (relative_registered2 b i v) = (b ≤ 255) × (i ≤ 255)
Fits2 (relative_assignable2 b i v) = (b ≤ 255) × (i ≤ 255)
Fits2 (per_note_pitch_bend2 n v) = n ≤ 255
Fits2 (note_off2 n v) = (n ≤ 255) × (v < 2 ^ 16)
Fits2 (note_on2 n v) = (n ≤ 255) × (v < 2 ^ 16)
Fits2 (poly_pressure2 n v) = n ≤ 255
Fits2 (control_change2 i v) = i ≤ 255
Fits2 (per_note_management2 n f) = (n ≤ 255) × (f ≤ 255)
Fits2 (program_change2 p no_bank) = p ≤ 255
Fits2 (program_change2 p (bank h l)) = (p ≤ 255) × (h ≤ 255) × (l ≤ 255)
Fits2 (channel_pressure2 v) = Unit {0}
Fits2 (pitch_bend2 v) = Unit {0}

-- a first word of the group g, the channel c and the message type t
abbrev pub WordIn : Group → Channel → ℕ → ℕ → Type 0
WordIn g c t w = (group_of w ≡ g) × (channel_of w ≡ c) × (message_type w ≡ t)

-- What is written reads back as itself, in its group and channel.
pub record ReadsBack : Type 0 where
  pub midi1 : (g : Group) (c : Channel) (m : Midi1) → g.0 < 16 → c.0 < 16 → Fits1 m
      → (read1 (write1 g c m) ≡ m) × WordIn g c voice1 (write1 g c m)
  pub midi2 : (g : Group) (c : Channel) (m : Midi2) → g.0 < 16 → c.0 < 16 → Fits2 m
      → (read2 (first2 g c m) (second2 m) ≡ m) × WordIn g c voice2 (first2 g c m)
