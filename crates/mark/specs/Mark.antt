-- The call that sets a coarse mark or takes it off (RULES 5.9; 02 M-105).
use Rattle.std.specs.Prelude.{ℕ, Bool, cond, ◌&&◌, List, Option, None, Some, eqb, get_or, length, set}
use Rattle.stream.specs.Answers.{answered, no_table, not_sound, out_of_range}
use Rattle.channel.specs.declared.Record.{Record}
use Rattle.channel.specs.Record.{empty, sound, whole_table, with_mark}
use Rattle.question.specs.Question.{in_range, place_asked}

-- in a table of n records, the group and the channel name one
abbrev pub named : ℕ → ℕ → ℕ → Bool
named n group channel = eqb n whole_table && in_range group channel

-- and where they do not: 10 for a table that is not whole, and then 24
abbrev pub unnamed : ℕ → ℕ
unnamed n = cond (eqb n whole_table) out_of_range no_table

-- A record that is not sound is refused by 8, and stays.
abbrev pub answer_for : Record → ℕ
answer_for r = cond (sound r) answered not_sound

abbrev pub record_marked : Record → ℕ → Record
record_marked r coarse = cond (sound r) (with_mark r coarse) r

-- the answer that a record after it stands for, and the one that none does
abbrev pub answer_of : Option Record → ℕ
answer_of None = not_sound
answer_of (Some after) = answered

-- the record that is named
abbrev pub record_of : List Record → ℕ → ℕ → Record
record_of t group channel = get_or t (place_asked group channel) empty

-- the answer of the call, and the table after it
unfoldable pub mark_answer : List Record → ℕ → ℕ → ℕ
mark_answer t group channel =
    cond (named (length t) group channel) (answer_for (record_of t group channel)) (unnamed (length t))

unfoldable pub table_marked : List Record → ℕ → ℕ → ℕ → List Record
table_marked t group channel coarse =
    cond (named (length t) group channel)
    (set t (place_asked group channel) (record_marked (record_of t group channel) coarse)) t
