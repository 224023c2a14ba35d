-- A group given to a host, or to nobody, and its records emptied (RULES 5.10; 02 M-107).
use Rattle.std.specs.Prelude.{ℕ, zero, suc, ◌+◌, Bool, cond, not, ◌&&◌, ◌||◌, List, eqb, leb, ltb, get_or, length, set}
use Rattle.ump.specs.Word.{record_number}
use Rattle.stream.specs.Answers.{answered, no_table, out_of_range}
use Rattle.channel.specs.declared.Record.{Record}
use Rattle.channel.specs.Record.{empty, whole_table}

-- the hosts are two
abbrev pub is_host : ℕ → Bool
is_host h = eqb h 1 || eqb h 2

-- Whose a number of the owner list is: host 1's, host 2's, or nobody's, which is 0. Every other number is nobody's.
abbrev pub owner_of : ℕ → ℕ
owner_of n = cond (is_host n) n 0

-- and whose a group is: one past the list's end is nobody's
abbrev pub group_owner : List ℕ → ℕ → ℕ
group_owner owners group = owner_of (get_or owners group 0)

-- how many channels, and so records, a group has, and where the first of them stands
abbrev pub channels : ℕ
channels = 16

abbrev pub first_of : ℕ → ℕ
first_of group = record_number (record { 0 = group }) (record { 0 = 0 })

-- there is such a group, and the list has it; the host is one of the two, or nobody
abbrev pub can_be_given : List ℕ → ℕ → ℕ → Bool
can_be_given owners group host = leb group 15 && ltb group (length owners) && leb host 2

-- Giving, with a table of n records.
module _ (owners : List ℕ) (n group host : ℕ) where
  -- 10 for a table that is not whole, and then 24
  unfoldable pub give_answer : ℕ
  give_answer = cond (eqb n whole_table) (cond (can_be_given owners group host) answered out_of_range) no_table

  -- a group changes hands where it is given to another than has it
  unfoldable pub changes_hands : Bool
  changes_hands = eqb give_answer answered && not (eqb (group_owner owners group) host)

  -- and then the owner list has the new host
  unfoldable pub owners_after : List ℕ
  owners_after = cond changes_hands (set owners group host) owners

-- so many records from a place on are empty, those of them that there are, and every other stays
unfoldable pub emptied : List Record → ℕ → ℕ → List Record
emptied t k zero = t
emptied t k (suc n) = set (emptied t k n) (k + n) empty

-- the table after giving: the records of a group that changes hands are empty
unfoldable pub table_given : List ℕ → List Record → ℕ → ℕ → List Record
table_given owners t group host =
    cond (changes_hands owners (length t) group host) (emptied t (first_of group) channels) t
