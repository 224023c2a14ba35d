-- The argument by which a program is told of a coarse channel (02 M-105): the group, a colon (58) and the channel. Each
-- of the two numbers is one or two decimal digits of at most 15, and no other byte stands anywhere.
use Rattle.std.specs.Prelude.{ℕ, ◌+◌, ◌*◌, ◌-◌, Bool, cond, ◌&&◌, List, [], ◌∷◌, eqb, leb, drop, get_or, take}
use Rattle.std.specs.Prelude.{Option, Some, None}

-- 02 M-105: a decimal digit, 0 (48) to 9 (57)
abbrev pub is_digit : ℕ → Bool
is_digit b = leb 48 b && leb b 57

-- 02 M-105: what is written in digits is a number where it is not above the most that it may be
abbrev pub number_if : ℕ → Bool → ℕ → Option ℕ
number_if most digits n = cond (digits && leb n most) (Some n) None

-- 02 M-105: the number that three digits write. Fewer digits have zeros (48) before them.
abbrev pub three_digits : ℕ → ℕ → ℕ → ℕ → Option ℕ
three_digits most a b c =
    number_if most (is_digit a && is_digit b && is_digit c) ((a - 48) * 100 + (b - 48) * 10 + (c - 48))

-- 02 M-105: the group or the channel in a row of bytes: one digit or two, of at most 15
abbrev pub two_digits : ℕ → ℕ → Option ℕ
two_digits a b = three_digits 15 48 a b

unfoldable pub number_in : List ℕ → Option ℕ
number_in [] = None
number_in (a ∷ []) = two_digits 48 a
number_in (a ∷ b ∷ []) = two_digits a b
number_in (a ∷ b ∷ c ∷ s) = None

-- 02 M-105: a channel has both numbers
unfoldable pub both : Option ℕ → Option ℕ → Option (ℕ × ℕ)
both None channel = None
both (Some g) None = None
both (Some g) (Some c) = Some (g, c)

-- 02 M-105: the group before a place, and the channel after it
abbrev pub parted : ℕ → List ℕ → Option (ℕ × ℕ)
parted at text = both (number_in (take at text)) (number_in (drop (at + 1) text))

-- 02 M-105: the channel that a row of bytes names. The colon stands after one byte, or else after two.
unfoldable pub channel_named : List ℕ → Option (ℕ × ℕ)
channel_named text =
    cond (eqb (get_or text 1 0) 58) (parted 1 text) (cond (eqb (get_or text 2 0) 58) (parted 2 text) None)
