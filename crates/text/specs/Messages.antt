-- RULES 14.5: the lines of whole messages, in ASCII (02 M-106): the sort and the group of a message and its bytes in
-- hex; and of one that is dropped the answer, its sort and its group.
use Rattle.std.specs.Prelude.{ℕ, ◌%◌, cond, List, [], ◌∷◌, ◌++◌, ltb}
use Rattle.text.specs.Lines.{decimal, fields_of}

-- RULES 14.5: `exclusive ` and `flex `
abbrev pub exclusive_name : List ℕ
exclusive_name = 101 ∷ 120 ∷ 99 ∷ 108 ∷ 117 ∷ 115 ∷ 105 ∷ 118 ∷ 101 ∷ 32 ∷ []

abbrev pub flex_name : List ℕ
flex_name = 102 ∷ 108 ∷ 101 ∷ 120 ∷ 32 ∷ []

-- RULES 14.5: the sort of a chain, with a space after it: those of exclusives stand before those of Flex Data
unfoldable pub sort_name : ℕ → List ℕ
sort_name chain = cond (ltb chain 16) exclusive_name flex_name

-- RULES 14.5: the sort and the group
unfoldable pub head_of : ℕ → List ℕ
head_of chain = sort_name chain ++ decimal (chain % 16)

-- RULES 14.5: a whole message
unfoldable pub message_line : ℕ → List ℕ → List ℕ
message_line chain bytes = head_of chain ++ fields_of 2 bytes ++ (10 ∷ [])

-- RULES 14.5: one that is dropped
unfoldable pub dropped_line : ℕ → ℕ → List ℕ
dropped_line answer chain = decimal answer ++ (32 ∷ []) ++ head_of chain ++ (10 ∷ [])
