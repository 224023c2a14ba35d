-- The keys of a channel that are down (RULES 5.7; 02 M-103): one bit for each, how many they are, and the lowest.
use Rattle.std.specs.Prelude.{ℕ, zero, suc, ◌+◌, ◌-◌, ◌/◌, ◌%◌, ◌^◌, Bool, false, cond, eqb, ltb, Option, None, Some}
use Rattle.std.specs.Int.Bits.{bit_and, bit_or}
use Rattle.keys.specs.declared.Keys.{Keys}

-- bit k of n is set
unfoldable pub bit : ℕ → ℕ → Bool
bit n k = eqb (n / 2 ^ k % 2) 1

-- key k is down: bit k of low, or bit k - 64 of high; no key above 127 is
unfoldable pub down : Keys → ℕ → Bool
down s k = cond (ltb k 64) (bit s.low k) (cond (ltb k 128) (bit s.high (k - 64)) false)

abbrev pub empty_keys : Keys
empty_keys = record { low = 0; high = 0 }

-- bit k set, bit k cleared
unfoldable pub with_bit : ℕ → ℕ → ℕ
with_bit n k = bit_or n (2 ^ k)

unfoldable pub without : ℕ → ℕ → ℕ
without n k = bit_and n (2 ^ 64 - 1 - 2 ^ k)

-- bit k changed by f in its half; no key above 127 changes anything
unfoldable pub changed : (ℕ → ℕ → ℕ) → Keys → ℕ → Keys
changed f s k =
    cond (ltb k 64) (record { low = f s.low k; high = s.high })
    (cond (ltb k 128) (record { low = s.low; high = f s.high (k - 64) }) s)

abbrev pub pressed : Keys → ℕ → Keys
pressed s k = changed with_bit s k

abbrev pub released : Keys → ℕ → Keys
released s k = changed without s k

-- how many of the numbers below n have p
unfoldable pub tally : (ℕ → Bool) → ℕ → ℕ
tally p zero = 0
tally p (suc n) = tally p n + cond (p n) 1 0

-- the least of the numbers below n that has p
unfoldable pub or_key : Option ℕ → Option ℕ → Option ℕ
or_key None b = b
or_key (Some k) b = Some k

unfoldable pub least : (ℕ → Bool) → ℕ → Option ℕ
least p zero = None
least p (suc n) = or_key (least p n) (cond (p n) (Some n) None)

abbrev pub down_count : Keys → ℕ
down_count s = tally (down s) 128

abbrev pub least_down : Keys → Option ℕ
least_down s = least (down s) 128
