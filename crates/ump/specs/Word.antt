-- The fields of a word, by / and % (RULES 1.1; 01 "Packet sizes, in 32-bit words" and "What is checked").
use Rattle.std.specs.Prelude.{ℕ, ◌+◌, ◌*◌, ◌/◌, ◌%◌, ◌^◌}
use Rattle.ump.specs.declared.Group.{Group}
use Rattle.ump.specs.declared.Channel.{Channel}

-- n bits of w, the lowest of them bit k
abbrev pub bits : ℕ → ℕ → ℕ → ℕ
bits k n w = w / 2 ^ k % 2 ^ n

-- the top four bits of a packet's first word
abbrev pub message_type : ℕ → ℕ
message_type w = bits 28 4 w

-- the message types of channel voice messages, of MIDI 1.0 and of MIDI 2.0
abbrev pub voice1 : ℕ
voice1 = 2

abbrev pub voice2 : ℕ
voice2 = 4

-- the four bits after the message type
abbrev pub group_of : ℕ → Group
group_of w = record { 0 = bits 24 4 w }

-- the status, and below it the channel
abbrev pub status : ℕ → ℕ
status w = bits 20 4 w

abbrev pub channel_of : ℕ → Channel
channel_of w = record { 0 = bits 16 4 w }

-- of an exclusive's packet: how many payload bytes it has
abbrev pub count : ℕ → ℕ
count w = bits 16 4 w

-- the bytes of a word, the first the highest; the second is the status byte of a system message
abbrev pub byte1 : ℕ → ℕ
byte1 w = bits 24 8 w

abbrev pub byte2 : ℕ → ℕ
byte2 w = bits 16 8 w

abbrev pub byte3 : ℕ → ℕ
byte3 w = bits 8 8 w

abbrev pub byte4 : ℕ → ℕ
byte4 w = w % 2 ^ 8

-- the two data bytes of a MIDI 1.0 message, seven bits each (004 section 7.3)
abbrev pub data1 : ℕ → ℕ
data1 w = bits 8 7 w

abbrev pub data2 : ℕ → ℕ
data2 w = w % 2 ^ 7

-- the bank flag of a MIDI 2.0 program change
abbrev pub bank_flag : ℕ → ℕ
bank_flag w = w % 2

-- where the record of a channel stands in the table (RULES 1.4)
abbrev pub record_number : Group → Channel → ℕ
record_number g c = 16 * g.0 + c.0

-- and that of a packet, by its first word
abbrev pub place_of : ℕ → ℕ
place_of w = record_number (group_of w) (channel_of w)
