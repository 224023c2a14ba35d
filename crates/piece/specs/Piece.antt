-- The piece of a message that a packet carries, and the chain that it belongs to (RULES 14; 01 "Layouts and rules for
-- later parts"; 02 M-106). A packet is given by its own words.
use Rattle.std.specs.Prelude.{ℕ, ◌+◌, ◌≤◌, ◌%◌, ◌^◌, min, ◌≡◌, Bool, cond, ◌&&◌, List, [], ◌∷◌, length, get_or, take, eqb, leb}
use Rattle.ump.specs.Word.{bits, byte1, byte2, byte3, byte4, count, group_of, message_type, status}
use Rattle.ump.specs.Packet.{first, second}
use Rattle.piece.specs.declared.Format.{Format}
use Rattle.piece.specs.declared.Format.TheVariants.{Complete, Continue, End, Reserved, Start}
use Rattle.piece.specs.declared.Head.{Head}

-- the message types of exclusives and of Flex Data
abbrev pub exclusive : ℕ
exclusive = 3

abbrev pub flex : ℕ
flex = 13

-- the places of a piece in its message: all of it, its first piece, one between, and its last
abbrev pub complete : Format
complete = Complete

abbrev pub start : Format
start = Start

abbrev pub continued : Format
continued = Continue

abbrev pub end : Format
end = End

-- the place that a number stands for; those above 3 are reserved
abbrev pub format_by : ℕ → Format
format_by n =
    cond (eqb n 0) complete (cond (eqb n 1) start (cond (eqb n 2) continued (cond (eqb n 3) end (Reserved n))))

-- Flex Data: the place, the address, and all the fields that the packets of a message share, which are the address,
-- the channel, the bank and the status
abbrev pub format_of : ℕ → Format
format_of w = format_by (bits 22 2 w)

abbrev pub address_of : ℕ → ℕ
address_of w = bits 20 2 w

abbrev pub shared_of : ℕ → ℕ
shared_of w = w % 2 ^ 22

-- Flex Data for an address that there is none of, by the first word
abbrev pub strange_address : ℕ → Bool
strange_address w = eqb (message_type w) flex && leb 2 (address_of w)

-- stands for the chain of a packet that belongs to none
abbrev pub no_chain : ℕ
no_chain = 32

-- the chain of a message type and a group: exclusives 0 to 15, Flex Data 16 to 31
unfoldable pub chain_for : ℕ → ℕ → ℕ
chain_for t group = cond (eqb t exclusive) group (cond (eqb t flex) (16 + group) no_chain)

-- and of a packet, by its first word
abbrev pub chain_by : ℕ → ℕ
chain_by w = chain_for (message_type w) (group_of w).0

-- where the chain of a packet's group stands among the 32, for a packet of another type as for an exclusive
unfoldable pub slot_by : ℕ → ℕ
slot_by w = cond (eqb (message_type w) flex) (16 + (group_of w).0) (group_of w).0

-- A piece: its place in the message, the fields that it shares with the others, what it adds to the number of packets,
-- which only Flex Data counts, and its bytes, the first `count` of the twelve.
pub record Piece : Type 0 where
  pub format : Format
  pub shared : ℕ
  pub adds : ℕ
  pub count : ℕ
  pub bytes : List ℕ

-- all but the bytes
abbrev pub head_of : Piece → Head
head_of x = record { format = x.format; shared = x.shared; adds = x.adds; count = x.count }

-- the bytes of a word, and others behind them
abbrev pub word_bytes : ℕ → List ℕ → List ℕ
word_bytes w s = byte1 w ∷ byte2 w ∷ byte3 w ∷ byte4 w ∷ s

-- an exclusive's bytes: two of the first word and four of the second, in twelve places
abbrev pub exclusive_bytes : ℕ → ℕ → List ℕ
exclusive_bytes w v = byte3 w ∷ byte4 w ∷ word_bytes v (0 ∷ 0 ∷ 0 ∷ 0 ∷ 0 ∷ 0 ∷ [])

-- those of Flex Data: its last three words
abbrev pub flex_bytes : ℕ → ℕ → ℕ → List ℕ
flex_bytes a b c = word_bytes a (word_bytes b (word_bytes c []))

-- An exclusive has nothing to share, and its packets are not counted. It never has more than six bytes: a packet that
-- says so is refused before.
unfoldable pub exclusive_piece : ℕ → ℕ → Piece
exclusive_piece w a =
    record { format = format_by (status w); shared = 0; adds = 0; count = min (count w) 6; bytes = exclusive_bytes w a }

unfoldable pub flex_piece : ℕ → ℕ → ℕ → ℕ → Piece
flex_piece w a b c =
    record { format = format_of w; shared = shared_of w; adds = 1; count = 12; bytes = flex_bytes a b c }

unfoldable pub piece_for : ℕ → ℕ → ℕ → ℕ → ℕ → Piece
piece_for t w a b c = cond (eqb t flex) (flex_piece w a b c) (exclusive_piece w a)

-- of a packet
abbrev pub piece_in : List ℕ → Piece
piece_in p = piece_for (message_type (first p)) (first p) (second p) (get_or p 2 0) (get_or p 3 0)

-- what its first word says of it, whatever words follow
abbrev pub head_by : ℕ → Head
head_by w = head_of (piece_for (message_type w) w 0 0 0)

-- the bytes that it carries
abbrev pub payload : Piece → List ℕ
payload x = take x.count x.bytes

-- what every packet's piece keeps to: twelve places, no more bytes than places, and at most one packet
pub record Fine (x : Piece) : Type 0 where
  pub places : length x.bytes ≡ 12
  pub few : x.count ≤ 12
  pub one : x.adds ≤ 1
