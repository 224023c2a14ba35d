-- What a channel's record remembers of control changes (RULES 5; 01 "The channel record"; 02 M-105): soundness, what is
-- empty, and what each control change makes of it.
use Rattle.std.specs.Prelude.{ℕ, ◌≤◌, Bool, true, cond, not, ◌&&◌, ◌||◌, ◌≡◌, eqb, leb}
use Rattle.memory.specs.declared.Memory.{Memory}

-- the address kinds (RULES 5.1)
abbrev pub no_address : ℕ
no_address = 0

abbrev pub registered : ℕ
registered = 1

abbrev pub assignable : ℕ
assignable = 2

-- how a number that is missing is held
abbrev pub missing : ℕ
missing = 255

abbrev pub present : ℕ → Bool
present n = not (eqb n missing)

-- how the coarse mark is held (RULES 5.9): 1 where it is set
abbrev pub unmarked : ℕ
unmarked = 0

abbrev pub marked : Memory → Bool
marked r = not (eqb r.coarse unmarked)

-- no address, nothing present, and no mark
abbrev pub empty : Memory
empty =
    record {
      kind = no_address;
      bank_high = missing;
      bank_low = missing;
      address_bank = missing;
      address_index = missing;
      data_high = missing;
      coarse = unmarked;
    }

-- an address is complete: a kind, and both address halves present
abbrev pub complete : Memory → Bool
complete r = not (eqb r.kind no_address) && (present r.address_bank && present r.address_index)

-- the null address: both halves 127, of the registered kind only
abbrev pub null : Memory → Bool
null r = eqb r.kind registered && (eqb r.address_bank 127 && eqb r.address_index 127)

-- an address that data can be entered at: complete, and not null
abbrev pub address_open : Memory → Bool
address_open r = complete r && not (null r)

abbrev pub data_high_present : Memory → Bool
data_high_present r = present r.data_high

-- a number of it: at most 127, or missing
abbrev pub number : ℕ → Bool
number n = leb n 127 || eqb n missing

-- the bank halves are numbers
abbrev pub sound_bank : Memory → Bool
sound_bank r = number r.bank_high && number r.bank_low

-- the mark is 0 or 1, and beside data high it is 0
abbrev pub sound_mark : Memory → Bool
sound_mark r = leb r.coarse (cond (data_high_present r) 0 1)

-- A sound memory (RULES 5.2): each number is one, and the mark too; the kind is one of the three; without a kind there
-- is neither address nor data high; and data high stands only beside a complete address that is not null.
unfoldable pub sound : Memory → Bool
sound r =
    (sound_bank r && sound_mark r)
    && ((leb r.kind assignable
    && (number r.address_bank && (number r.address_index && number r.data_high)))
    && ((not (eqb r.kind no_address)
    || not (present r.address_bank || (present r.address_index || present r.data_high)))
    && (not (data_high_present r) || address_open r)))

-- with other bank halves
abbrev pub banked : ℕ → ℕ → Memory → Memory
banked high low r =
    record {
      kind = r.kind;
      bank_high = high;
      bank_low = low;
      address_bank = r.address_bank;
      address_index = r.address_index;
      data_high = r.data_high;
      coarse = r.coarse;
    }

-- with another address and data high
abbrev pub addressed : ℕ → ℕ → ℕ → ℕ → Memory → Memory
addressed kind bank index high r =
    record {
      kind = kind;
      bank_high = r.bank_high;
      bank_low = r.bank_low;
      address_bank = bank;
      address_index = index;
      data_high = high;
      coarse = r.coarse;
    }

-- with another mark
abbrev pub marked_as : ℕ → Memory → Memory
marked_as coarse r =
    record {
      kind = r.kind;
      bank_high = r.bank_high;
      bank_low = r.bank_low;
      address_bank = r.address_bank;
      address_index = r.address_index;
      data_high = r.data_high;
      coarse = coarse;
    }

-- control changes 0 and 32 (RULES 5.3)
abbrev pub with_bank_high : Memory → ℕ → Memory
with_bank_high r v = banked v r.bank_low r

abbrev pub with_bank_low : Memory → ℕ → Memory
with_bank_low r v = banked r.bank_high v r

-- The half of an address that a control change does not set (RULES 5.4): it is kept only where the kind is.
unfoldable pub kept : ℕ → ℕ → ℕ → ℕ
kept old kind half = cond (eqb old kind) half missing

-- control changes 101 and 99, and 100 and 98: an address half is set, and data high goes
abbrev pub with_address_bank : ℕ → Memory → ℕ → Memory
with_address_bank kind r v = addressed kind v (kept r.kind kind r.address_index) missing r

abbrev pub with_address_index : ℕ → Memory → ℕ → Memory
with_address_index kind r v = addressed kind (kept r.kind kind r.address_bank) v missing r

-- control change 6: data high, where there is an address that it can belong to, and no mark (RULES 5.5)
unfoldable pub with_data_high : Memory → ℕ → Memory
with_data_high r v =
    cond (address_open r && not (marked r)) (addressed r.kind r.address_bank r.address_index v r) r

-- after control change 121 no address is left, and no data high (RULES 5.6; 02 M-101)
abbrev pub with_address_closed : Memory → Memory
with_address_closed r = addressed no_address missing missing missing r

-- after a program change no bank is left
abbrev pub with_bank_spent : Memory → Memory
with_bank_spent r = banked missing missing r

-- The mark is set by any number but 0, and taken off by 0; data high goes either way, and the rest stays (RULES 5.9).
abbrev pub mark_by : ℕ → ℕ
mark_by n = cond (eqb n 0) unmarked 1

abbrev pub with_mark : Memory → ℕ → Memory
with_mark r n = marked_as (mark_by n) (addressed r.kind r.address_bank r.address_index missing r)

-- a change that keeps a sound memory sound, given a value of at most 127
abbrev pub KeepsSound : (Memory → ℕ → Memory) → Type 0
KeepsSound change = (r : Memory) (v : ℕ) → v ≤ 127 → sound r ≡ true → sound (change r v) ≡ true

-- The empty memory is sound, and every method keeps a sound one sound.
pub record StaysSound : Type 0 where
  pub at_start_lem : sound empty ≡ true
  pub bank_high : KeepsSound with_bank_high
  pub bank_low : KeepsSound with_bank_low
  pub registered_bank : KeepsSound (with_address_bank registered)
  pub registered_index : KeepsSound (with_address_index registered)
  pub assignable_bank : KeepsSound (with_address_bank assignable)
  pub assignable_index : KeepsSound (with_address_index assignable)
  pub data_high : KeepsSound with_data_high
  pub address_closed : (r : Memory) → sound r ≡ true → sound (with_address_closed r) ≡ true
  pub bank_spent : (r : Memory) → sound r ≡ true → sound (with_bank_spent r) ≡ true
  pub mark : (r : Memory) (n : ℕ) → sound r ≡ true → sound (with_mark r n) ≡ true
