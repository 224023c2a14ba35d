-- RULES 10.1: words as bytes, four to a word, the highest first.
use Rattle.std.specs.Prelude.{ℕ, ◌+◌, ◌*◌, ◌/◌, ◌%◌, ◌^◌, List, [], ◌∷◌, ◌++◌, get_or, length, take}

-- RULES 10.1: the word of four bytes
abbrev pub word : ℕ → ℕ → ℕ → ℕ → ℕ
word a b c d = a * 2 ^ 24 + b * 2 ^ 16 + c * 2 ^ 8 + d

-- RULES 10.1: the word of the four bytes from a place on
abbrev pub word_from : List ℕ → ℕ → ℕ
word_from s at = word (get_or s at 0) (get_or s (at + 1) 0) (get_or s (at + 2) 0) (get_or s (at + 3) 0)

-- RULES 10.1: the words of a row of bytes; fewer than four bytes at its end are left over, and make no word
unfoldable pub words_of : List ℕ → List ℕ
words_of [] = []
words_of (a ∷ []) = []
words_of (a ∷ b ∷ []) = []
words_of (a ∷ b ∷ c ∷ []) = []
words_of (a ∷ b ∷ c ∷ d ∷ s) = word a b c d ∷ words_of s

-- RULES 10.1: the words of a row of bytes, as many as a buffer has room for
abbrev pub words_into : List ℕ → List ℕ → List ℕ
words_into buffer bytes = take (length buffer) (words_of bytes)

-- RULES 10.1: a word as four bytes
abbrev pub four_bytes : ℕ → List ℕ
four_bytes w = w / 2 ^ 24 % 2 ^ 8 ∷ w / 2 ^ 16 % 2 ^ 8 ∷ w / 2 ^ 8 % 2 ^ 8 ∷ w % 2 ^ 8 ∷ []

-- RULES 10.1: the bytes of a row of words
unfoldable pub bytes_of : List ℕ → List ℕ
bytes_of [] = []
bytes_of (w ∷ ws) = four_bytes w ++ bytes_of ws

-- RULES 10.1: the bytes of a row of words, as many whole words as a buffer has room for
abbrev pub bytes_into : List ℕ → List ℕ → List ℕ
bytes_into buffer words = bytes_of (take (length buffer / 4) words)
