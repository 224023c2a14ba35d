-- A row for a lent output, which is stored whole or not at all (RULES 3.4).
use Rattle.std.specs.Prelude.{ℕ, ◌+◌, ◌-◌, ◌≡◌, ◌<◌, ◌≤◌, List, Option, Some, None, length}
use Rattle.ground.specs.Store.{written}

-- Where there is room from the place on, the place behind the row is told; where there is none, the output stays.
abbrev pub Puts : List ℕ → ℕ → List ℕ → Option ℕ → List ℕ → Type 0
Puts xs to out None after = (length out - to < length xs) × (after ≡ out)
Puts xs to out (Some end) after = (to + length xs ≤ length out) × (end ≡ to + length xs) × (after ≡ written to xs out)
