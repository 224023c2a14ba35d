-- The channel record (RULES 5; 01 "The channel record"; 02 M-103 and M-105), and a table of them.
use Rattle.std.specs.Prelude.{ℕ, ◌≡◌, Bool, List, get_or, length, replicate}
use Rattle.keys.specs.Keys.{empty_keys}
use Rattle.memory.specs.Memory as Memory
use Rattle.channel.specs.declared.Record.{Record}

-- no key is down, and nothing is remembered
abbrev pub empty : Record
empty = record { keys = empty_keys; memory = Memory.empty }

-- a record is sound by what it remembers: any keys may be down (RULES 5.2)
abbrev pub sound : Record → Bool
sound r = Memory.sound r.memory

-- the coarse mark set by any number but 0, or taken off by 0 (RULES 5.9); no key is touched
abbrev pub with_mark : Record → ℕ → Record
with_mark r coarse = record { keys = r.keys; memory = Memory.with_mark r.memory coarse }

-- how many records a table has, and a table in which each is empty
abbrev pub whole_table : ℕ
whole_table = 256

abbrev pub fresh : List Record
fresh = replicate whole_table empty

-- a whole table in which each record is empty but for its mark (RULES 9.1; 02 M-105)
pub record EmptyButMarks (t : List Record) : Type 0 where
  pub whole : length t ≡ whole_table
  pub each : (k : ℕ) → let r = get_or t k empty in r ≡ with_mark empty r.memory.coarse
