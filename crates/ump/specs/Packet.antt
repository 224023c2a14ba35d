-- Packets: their sizes, the packet that stands first in a stream, and a stream cut into packets.
use Rattle.std.specs.Prelude.{ℕ, zero, suc, pred, cond, ◌≡◌, List, [], ◌∷◌, length, get_or, take, leb}
use Rattle.ump.specs.Word.{message_type}

-- how many words a packet has, by message type 0 to F (RULES 1.2; 01 "Packet sizes, in 32-bit words")
abbrev pub sizes : List ℕ
sizes = 1 ∷ 1 ∷ 1 ∷ 2 ∷ 2 ∷ 4 ∷ 1 ∷ 1 ∷ 2 ∷ 2 ∷ 2 ∷ 3 ∷ 3 ∷ 4 ∷ 4 ∷ 4 ∷ []

unfoldable pub size : ℕ → ℕ
size w = get_or sizes (message_type w) 0

-- Of the words left, the packet that stands first, and no words where it is cut or none is left (RULES 1.3;
-- 01 "What the box translates").
unfoldable pub packet : List ℕ → List ℕ
packet [] = []
packet (w ∷ s) = cond (leb (size w) (length (w ∷ s))) (take (size w) (w ∷ s)) []

-- The packets of a stream, word by word: `cut_after k s` passes over the k words that still belong to the packet before,
-- and then each word it meets starts a packet. The last piece is shorter than its size where the stream is cut.
unfoldable pub cut_after : ℕ → List ℕ → List (List ℕ)
cut_after k [] = []
cut_after zero (w ∷ s) = take (size w) (w ∷ s) ∷ cut_after (pred (size w)) s
cut_after (suc k) (w ∷ s) = cut_after k s

unfoldable pub cut : List ℕ → List (List ℕ)
cut s = cut_after 0 s

-- a packet with all its words
unfoldable pub Whole : List ℕ → Type 0
Whole [] = ⊥
Whole (w ∷ s) = length (w ∷ s) ≡ size w

-- the first word of a packet, and its second, each 0 where there is none
abbrev pub first : List ℕ → ℕ
first p = get_or p 0 0

abbrev pub second : List ℕ → ℕ
second p = get_or p 1 0
