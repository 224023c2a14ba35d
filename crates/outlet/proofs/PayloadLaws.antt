-- The bytes of a payload asked all at once: no highest bit is set in the number of the first n of them exactly where
-- each is a data byte. Assumes nothing.
use Prim.Native.Nat.{ℕ, zero, suc, ◌+◌, ◌-◌, ◌*◌, ◌/◌, ◌%◌, ◌^◌, ◌≤◌, ◌<◌}
use mathlib.Core.Path.{◌≡◌, refl, ap, ◌∙◌}
use mathlib.Core.Bool.{true, ◌&&◌, and_assoc}
use mathlib.Core.List.{[], map}
use native.Mathlib.Omega.{arith}
use native.Mathlib.Nat.{zero-add}
use lib.Bits.{and_block, and_high, bit_and}
use lib.Dec.{eqb, leb}
use lib.ListN.{take}
use lib.Pow.{shr-shr}
use borrow.Author.Tests.{eq-eqb, eqb-false, eqb-true, leb-false, leb-true, ne_eqb}
use Rattle.ground.proofs.Bools.{and-true}
use Rattle.ground.proofs.Cases.{by_bool}
use Rattle.ump.specs.Word.{byte1, byte2, byte3, byte4}
use Rattle.fields.specs.Check.{bad_place, good_fields, seven}
use Rattle.outlet.specs.Outlet.{six}
use Rattle.outlet.specs.Sending.{payload_number}
use Rattle.outlet.proofs.ExclusiveLaws.{good_more}

-- the lowest byte, and those above it
last_bit : (y m b : ℕ) → b < 256 → eqb (bit_and (y * 256 + b) (m * 256 + 128)) 0 ≡ (eqb (bit_and y m) 0 && leb b 127)
last_bit y m b h =
    let both = bit_and y m * 256 + b / 128 % 2 * 128 in
    let s : bit_and (y * 256 + b) (m * 256 + 128) ≡ bit_and y m * 256 + b / 128 % 2 * 128 =
    and_block 8 y m b 128 h (omega arith) ∙ ap (λ (k : ℕ). bit_and y m * 256 + k) (and_high b 1 7) in
    rw s
    (by_bool (eqb (bit_and y m) 0)
    (λ t. let z = eqb-true (bit_and y m) 0 t in rw t (by_bool (leb b 127)
    (λ u. rw u (eq-eqb both 0 (omega (arith, z, leb-true b 127 u))))
    (λ u.
    let high : b / 128 ≡ 1 = omega (arith, leb-false b 127 u) in
    let bit : b / 128 % 2 ≡ 1 = omega (arith, high) in
    rw u (ne_eqb both 0 (λ e. omega (arith, bit, e))))))
    (λ t. let z = eqb-false (bit_and y m) 0 t in rw t (ne_eqb both 0 (λ e. z (omega (arith, e))))))

-- a byte alone
first_bit : (b : ℕ) → b < 256 → eqb (bit_and b 128) 0 ≡ leb b 127
first_bit b h = rw (zero-add b) at (last_bit 0 0 b h)

-- six bytes as one number
abbrev joined : ℕ → ℕ → ℕ → ℕ → ℕ → ℕ → ℕ
joined a b c d e f = ((((a * 256 + b) * 256 + c) * 256 + d) * 256 + e) * 256 + f

high_bits : (a b c d e f : ℕ)
    → eqb (bit_and (joined (a % 256) (b % 256) (c % 256) (d % 256) (e % 256) (f % 256)) 0x808080808080) 0
    ≡ (leb (a % 256) 127 && (leb (b % 256) 127 && (leb (c % 256) 127 && (leb (d % 256) 127
    && (leb (e % 256) 127 && leb (f % 256) 127)))))
high_bits a b c d e f =
    let x = a % 256 in
    let y = x * 256 + b % 256 in
    let z = y * 256 + c % 256 in
    let u = z * 256 + d % 256 in
    let t = u * 256 + e % 256 in
    last_bit t 0x8080808080 (f % 256) (omega arith)
    ∙ rw (
      last_bit u 0x80808080 (e % 256) (omega arith),
      last_bit z 0x808080 (d % 256) (omega arith),
      last_bit y 0x8080 (c % 256) (omega arith),
      last_bit x 0x80 (b % 256) (omega arith),
      first_bit x (omega arith),
    )
    (simp and_assoc)

good_none : good_fields [] ≡ true
unfolding bad_place
good_none = refl

ruleset fields = (good_more, good_none, and-true)

module _ (w v : ℕ) (fits : v < 2 ^ 32) where
  low : w % 2 ^ 16 ≡ byte3 w * 256 + byte4 w
  low = omega (arith, shr-shr w 8 8)

  whole : v ≡ byte1 v * 2 ^ 24 + byte2 v * 2 ^ 16 + byte3 v * 2 ^ 8 + byte4 v
  whole =
      let top : v / 2 ^ 24 ≡ byte1 v = omega arith in
      let middle : v / 2 ^ 16 ≡ v / 2 ^ 24 * 256 + byte2 v = omega (arith, shr-shr v 16 8) in
      let lower : v / 2 ^ 8 ≡ v / 2 ^ 16 * 256 + byte3 v = omega (arith, shr-shr v 8 8) in
      omega arith

  -- the number of the first n bytes, and those bytes
  pub data_number : (n : ℕ) → n ≤ 6
      → eqb (bit_and (payload_number w v / 2 ^ (8 * (6 - n))) 0x808080808080) 0
      ≡ good_fields (map seven (take n (six w v)))
  data_number zero h =
      let x : payload_number w v / 2 ^ 48 ≡ joined 0 0 0 0 0 0 =
      omega (arith, low, whole) in
      rw x (simp fields (high_bits 0 0 0 0 0 0))
  data_number (suc zero) h =
      let x : payload_number w v / 2 ^ 40 ≡ joined 0 0 0 0 0 (byte3 w) =
      omega (arith, low, whole) in
      rw x (simp fields (high_bits 0 0 0 0 0 (w / 2 ^ 8)))
  data_number (suc (suc zero)) h =
      let x : payload_number w v / 2 ^ 32 ≡ joined 0 0 0 0 (byte3 w) (byte4 w) =
      omega (arith, low, whole) in
      rw x (simp fields (high_bits 0 0 0 0 (w / 2 ^ 8) w))
  data_number (suc (suc (suc zero))) h =
      let x : payload_number w v / 2 ^ 24 ≡ joined 0 0 0 (byte3 w) (byte4 w) (byte1 v) =
      omega (arith, low, whole) in
      rw x (simp fields (high_bits 0 0 0 (w / 2 ^ 8) w (v / 2 ^ 24)))
  data_number (suc (suc (suc (suc zero)))) h =
      let x : payload_number w v / 2 ^ 16 ≡ joined 0 0 (byte3 w) (byte4 w) (byte1 v) (byte2 v) =
      omega (arith, low, whole) in
      rw x (simp fields (high_bits 0 0 (w / 2 ^ 8) w (v / 2 ^ 24) (v / 2 ^ 16)))
  data_number (suc (suc (suc (suc (suc zero))))) h =
      let x : payload_number w v / 2 ^ 8 ≡ joined 0 (byte3 w) (byte4 w) (byte1 v) (byte2 v) (byte3 v) =
      omega (arith, low, whole) in
      rw x (simp fields (high_bits 0 (w / 2 ^ 8) w (v / 2 ^ 24) (v / 2 ^ 16) (v / 2 ^ 8)))
  data_number (suc (suc (suc (suc (suc (suc zero)))))) h =
      let x : payload_number w v / 2 ^ 0 ≡ joined (byte3 w) (byte4 w) (byte1 v) (byte2 v) (byte3 v) (byte4 v) =
      omega (arith, low, whole) in
      rw x (simp fields (high_bits (w / 2 ^ 8) w (v / 2 ^ 24) (v / 2 ^ 16) (v / 2 ^ 8) v))
  data_number (suc (suc (suc (suc (suc (suc (suc n))))))) h = absurd (omega arith)
