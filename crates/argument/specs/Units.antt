-- The argument that gives the units of a range (02 M-110): one decimal digit to three, of at most 127, and no other
-- byte.
use Rattle.std.specs.Prelude.{ℕ, List, [], ◌∷◌, Option, None}
use Rattle.argument.specs.Argument.{three_digits}

abbrev pub of_three : ℕ → ℕ → ℕ → Option ℕ
of_three a b c = three_digits 127 a b c

-- fewer digits have zeros (48) before them
unfoldable pub units_in : List ℕ → Option ℕ
units_in [] = None
units_in (a ∷ []) = of_three 48 48 a
units_in (a ∷ b ∷ []) = of_three 48 a b
units_in (a ∷ b ∷ c ∷ []) = of_three a b c
units_in (a ∷ b ∷ c ∷ d ∷ s) = None
