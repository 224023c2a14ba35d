-- RULES 15.3: the lines of a rescue, in ASCII (02 M-109).
use Rattle.std.specs.Prelude.{ℕ, List, [], ◌∷◌, ◌++◌}
use Rattle.text.specs.Lines.{line_of, number_then}

-- 02 M-109: a packet that is dropped: the place of its first word, the answer, how many words it has, and the place of
-- its bad field where there is one
unfoldable pub drop_line : ℕ → ℕ → ℕ → ℕ → List ℕ
drop_line at answer count bad = number_then 32 at ++ line_of answer count bad []

-- 02 M-109: a number alone, with the end of the line
abbrev pub number_line : ℕ → List ℕ
number_line n = number_then 10 n

-- 02 M-109: the ticks between two stamps, behind the word `ticks` and a space
unfoldable pub ticks_line : ℕ → List ℕ
ticks_line n = (116 ∷ 105 ∷ 99 ∷ 107 ∷ 115 ∷ 32 ∷ []) ++ number_line n

-- 02 M-109: how many bytes are left over, behind the word `bytes` and a space
unfoldable pub bytes_line : ℕ → List ℕ
bytes_line n = (98 ∷ 121 ∷ 116 ∷ 101 ∷ 115 ∷ 32 ∷ []) ++ number_line n
