-- What a lent list holds after a row was stored into it (RULES 3.3).
use Rattle.std.specs.Prelude.{ℕ, ◌+◌, List, ◌++◌, drop, length, take}

-- a row stored from a place on: everything before it and after it stays
abbrev pub written : ℕ → List ℕ → List ℕ → List ℕ
written to ws out = take to out ++ ws ++ drop (to + length ws) out

-- a row stored from the first place on
abbrev pub at_start : List ℕ → List ℕ → List ℕ
at_start ws out = ws ++ drop (length ws) out
