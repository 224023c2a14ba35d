-- What is asked of a table (RULES 5.8; 02 M-103): the keys that are down on a channel.
use Rattle.std.specs.Prelude.{ℕ, Bool, cond, ◌&&◌, List, Option, None, Some, eqb, leb, get_or, length}
use Rattle.ump.specs.Word.{record_number}
use Rattle.stream.specs.Answers.{answered, no_table, out_of_range}
use Rattle.keys.specs.Keys.{down_count, least_down}
use Rattle.channel.specs.declared.Record.{Record}
use Rattle.channel.specs.Record.{empty, whole_table}
use Rattle.question.specs.declared.KeysDown.{KeysDown}

-- a group and a channel that there are
abbrev pub in_range : ℕ → ℕ → Bool
in_range group channel = leb group 15 && leb channel 15

-- where their record stands
abbrev pub place_asked : ℕ → ℕ → ℕ
place_asked group channel = record_number (record { 0 = group }) (record { 0 = channel })

-- the lowest key by its number, and 255 for none
unfoldable pub lowest_told : Option ℕ → ℕ
lowest_told None = 255
lowest_told (Some k) = k

-- no key is shown, and how many and which
abbrev pub showing_none : ℕ → KeysDown
showing_none answer = record { answer = answer; down = 0; lowest = 255 }

abbrev pub keys_shown : Record → KeysDown
keys_shown r =
    record { answer = answered; down = down_count r.keys; lowest = lowest_told (least_down r.keys) }

-- Of a table of n records: 10 where it is not a whole one, then 24, and else what the record shows.
unfoldable pub keys_told : ℕ → ℕ → ℕ → Record → KeysDown
keys_told n group channel r =
    cond (eqb n whole_table) (cond (in_range group channel) (keys_shown r) (showing_none out_of_range)) (showing_none no_table)

unfoldable pub keys_asked : List Record → ℕ → ℕ → KeysDown
keys_asked t group channel = keys_told (length t) group channel (get_or t (place_asked group channel) empty)
