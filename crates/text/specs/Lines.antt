-- RULES 10.2: a line of the listing, in ASCII. Two decimal numbers, or three where there is a place, and the words in
-- hex, with one space between them.
use Rattle.std.specs.Prelude.{ℕ, zero, suc, ◌+◌, ◌-◌, ◌/◌, ◌%◌, ◌^◌, Bool, cond, List, [], ◌∷◌, ◌++◌, eqb, leb, ltb}
use Rattle.std.specs.Prelude.{Option, None, Some, length}
use Rattle.std.proofs.lemmas.List.Edits.{sets}

-- RULES 10.2: a digit below 16: 0 to 9, then A to F
abbrev pub glyph : ℕ → ℕ
glyph d = cond (ltb d 10) (48 + d) (55 + d)

-- RULES 10.2: the last k digits of n in base b, the highest first
unfoldable pub digits : ℕ → ℕ → ℕ → List ℕ
digits b zero n = []
digits b (suc k) n = glyph (n / b ^ k % b) ∷ digits b k n

-- RULES 10.2: how many decimal digits n has: one, and one more for each time that it can be divided by ten. The first
-- number only bounds the recursion, and n itself is enough.
unfoldable pub places_in : ℕ → ℕ → ℕ
places_in zero n = 1
places_in (suc k) n = cond (ltb n 10) 1 (suc (places_in k (n / 10)))

-- RULES 10.2: the number of decimal digits
abbrev pub places : ℕ → ℕ
places n = places_in n n

-- RULES 10.2: a number in decimal, with no zero before it
abbrev pub decimal : ℕ → List ℕ
decimal n = digits 10 (places n) n

-- RULES 10.4 and 15.3: a number in decimal, with one more character after it
unfoldable pub number_then : ℕ → ℕ → List ℕ
number_then end n = decimal n ++ (end ∷ [])

-- RULES 10.2 and 14.5: each number in hex of k digits, with a space (32) before it
unfoldable pub fields_of : ℕ → List ℕ → List ℕ
fields_of k [] = []
fields_of k (w ∷ ws) = (32 ∷ digits 16 k w) ++ fields_of k ws

-- RULES 10.2: each word so
abbrev pub hex_fields : List ℕ → List ℕ
hex_fields ws = fields_of 8 ws

-- RULES 10.2: a place, with a space before it; 0 is none
unfoldable pub place_field : ℕ → List ℕ
place_field place = cond (eqb place 0) [] (32 ∷ decimal place)

-- RULES 10.2: the numbers of a call
abbrev pub call_of : ℕ → ℕ → ℕ → List ℕ
call_of answer read place = decimal answer ++ (32 ∷ decimal read) ++ place_field place

-- RULES 10.2: the whole line, with the end of the line (10)
unfoldable pub line_of : ℕ → ℕ → ℕ → List ℕ → List ℕ
line_of answer read place ws =
    decimal answer ++ (32 ∷ decimal read) ++ place_field place ++ hex_fields ws ++ (10 ∷ [])

-- RULES 10.2: whether a row fits into a buffer from a place on
abbrev pub fits_from : List ℕ → ℕ → List ℕ → Bool
fits_from buffer to row = leb (length row) (length buffer - to)

-- RULES 10.2: the place after a row that is put at a place, or the place itself where the row does not fit
abbrev pub place_after : List ℕ → ℕ → List ℕ → ℕ
place_after buffer to row = cond (fits_from buffer to row) (to + length row) to

-- RULES 10.2: the same place, where the row fits
abbrev pub place_if_put : List ℕ → ℕ → List ℕ → Option ℕ
place_if_put buffer to row = cond (fits_from buffer to row) (Some (to + length row)) None

-- RULES 10.2: the buffer with a row put at a place, or as it was where the row does not fit
abbrev pub with_row : List ℕ → ℕ → List ℕ → List ℕ
with_row buffer to row = cond (fits_from buffer to row) (sets buffer to row) buffer
