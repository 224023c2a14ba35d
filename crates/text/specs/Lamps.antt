-- RULES 10.4: a line of the panel, in ASCII: four decimal numbers with a space after each, and a lamp for each key.
use Rattle.std.specs.Prelude.{ℕ, zero, suc, Bool, cond, List, [], ◌∷◌, ◌++◌, Option, None, Some}
use Rattle.keys.specs.declared.Keys.{Keys}
use Rattle.keys.specs.Keys.{down, down_count, least_down}
use Rattle.text.specs.Lines.{number_then}

-- RULES 10.4: the lamp of a key: # (35) where it is down, and else a full stop (46)
abbrev pub lamp : Bool → ℕ
lamp down = cond down 35 46

-- RULES 10.4: the lamps of the keys below n, the lowest first
unfoldable pub lamps_below : Keys → ℕ → List ℕ
lamps_below keys zero = []
lamps_below keys (suc n) = lamps_below keys n ++ (lamp (down keys n) ∷ [])

-- RULES 10.4: the lamps of all keys
abbrev pub lamp_row : Keys → List ℕ
lamp_row keys = lamps_below keys 128

-- RULES 10.4: a number in decimal, with a space (32) after it
abbrev pub number_field : ℕ → List ℕ
number_field n = number_then 32 n

-- RULES 10.4: the line of a channel by its lowest key, with the end of the line (10)
unfoldable pub lamps_line : ℕ → ℕ → Keys → ℕ → List ℕ
lamps_line group channel keys lowest =
    number_field group ++ number_field channel ++ number_field (down_count keys) ++ number_field lowest
    ++ lamp_row keys ++ (10 ∷ [])

-- RULES 10.4: a channel with no key down has no line
unfoldable pub line_from : ℕ → ℕ → Keys → Option ℕ → List ℕ
line_from group channel keys None = []
line_from group channel keys (Some k) = lamps_line group channel keys k

abbrev pub channel_line : ℕ → ℕ → Keys → List ℕ
channel_line group channel keys = line_from group channel keys (least_down keys)
