-- The table that a lesson starts from: empty but for the marks of a list, which has a number for each group
-- (02 M-111; REQUESTS "111, the lesson run").
use Rattle.std.specs.Prelude.{ℕ, zero, suc, ◌/◌, ◌%◌, ◌^◌, List, [], ◌∷◌, ◌++◌, get_or}
use Rattle.channel.specs.declared.Record.{Record}
use Rattle.channel.specs.Record.{empty, whole_table, with_mark}

-- the mark of record k, 0 or 1: the bit of its channel, k mod 16, in the number of its group, k / 16; 0 past the end
unfoldable pub mark_in : List ℕ → ℕ → ℕ
mark_in coarse k = get_or coarse (k / 16) 0 / 2 ^ (k % 16) % 2

-- the records of the places below n, one after another, and those of a whole table
unfoldable pub marked_below : List ℕ → ℕ → List Record
marked_below coarse zero = []
marked_below coarse (suc n) = marked_below coarse n ++ (with_mark empty (mark_in coarse n) ∷ [])

unfoldable pub marked_table : List ℕ → List Record
marked_table coarse = marked_below coarse whole_table
