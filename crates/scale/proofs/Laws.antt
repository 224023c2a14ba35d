-- The laws of scaling, each once over the widths: what is filled in stays below the places filled, so that
-- dropping them gives the value back, the wider width holds it, and order is kept. Assumes nothing.
use mathlib.Core.Path.{◌≡◌, refl, sym, ◌∙◌, ap, subst}
use mathlib.Core.Bool.{Bool, true, false, cond}
use Prim.Native.Nat.{ℕ, zero, suc, ◌+◌, ◌-◌, ◌*◌, ◌/◌, ◌%◌, ◌^◌, ◌<◌, ◌≤◌}
use native.Mathlib.Omega.{arith}
use native.Mathlib.Nat.{pow-suc, mod-eq_of_lt, add-suc, add-zero, add-mod_left, sub_self, div-one, mul_assoc}
use native.Mathlib.Nat.{zero-div, zero-mod}
use native.Mathlib.Numerals.{add-one}
use lib.Dec.{leb}
use borrow.Author.Tests.{le-leb, lt-leb}
use lib.Arith.{digits_div, digits_lt}
use lib.Pow.{pow_pos, pow-add, pow_mono, shr-shr, mod-pow-add, field, ones_split, high}
use Rattle.scale.specs.Scale.{CoreRules, down, fill, up}

-- what is filled in stays below the places that are filled
pub fill-lt : (m x e : ℕ) → fill m x e < 2 ^ e
unfolding fill
fill-lt m x zero = omega arith
fill-lt m x (suc e) = rw pow-suc (omega (arith, fill-lt m x e))

-- filling with 0 gives 0
pub fill-zero : (m e : ℕ) → fill m 0 e ≡ 0
unfolding fill
fill-zero m zero = refl
fill-zero m (suc e) = omega (arith, fill-zero m e, zero-div (2 ^ (m - 1 - e % m)))

cond-lt : (t : Bool) (a b n : ℕ) → a < n → b < n → cond t a b < n
cond-lt true a b n p q = p
cond-lt false a b n p q = q

-- what scaling adds to the shifted value
added : ℕ → ℕ → ℕ → ℕ
added s d x = cond (leb x (2 ^ (s - 1))) 0 (fill (s - 1) x (d - s))

added-lt : (s d x : ℕ) → added s d x < 2 ^ (d - s)
unfolding added
added-lt s d x =
    cond-lt (leb x (2 ^ (s - 1))) 0 (fill (s - 1) x (d - s)) (2 ^ (d - s)) (pow_pos (d - s)) (fill-lt (s - 1) x (d - s))

pub down-up : (s d x : ℕ) → down d s (up s d x) ≡ x
unfolding up added
down-up s d x = digits_div x (added-lt s d x)

pub up_lt : (s d x : ℕ) → s ≤ d → x < 2 ^ s → up s d x < 2 ^ d
unfolding up added
up_lt s d x le h =
    let e : s + (d - s) ≡ d = omega arith in
    let k : x * 2 ^ (d - s) + added s d x < 2 ^ s * 2 ^ (d - s) = digits_lt h (added-lt s d x) in
    subst (λ (n : ℕ). x * 2 ^ (d - s) + added s d x < n) (sym (pow-add 2 s (d - s)) ∙ ap (λ (n : ℕ). 2 ^ n) e) k

bits : (m x e : ℕ) → e ≤ m → fill m x e ≡ x / 2 ^ (m - e) % 2 ^ e
unfolding fill
bits m x zero h = omega arith
bits m x (suc e) h =
    let k : m - 1 - e % m ≡ m - suc e = rw (mod-eq_of_lt {n = e} {m = m} h) (omega arith) in
    let j : (m - suc e) + 1 ≡ m - e = omega arith in
    let y : x / 2 ^ (m - suc e) / 2 ≡ x / 2 ^ (m - e) = rw (← j) (shr-shr x (m - suc e) 1) in
    rw (k, bits m x e (omega arith), ← y) (rw add-one at (sym (mod-pow-add (x / 2 ^ (m - suc e)) e 1)))

-- one copy or less: the copy's highest bits
pub fill-part : (m x e : ℕ) → e ≤ m → fill m x e ≡ x % 2 ^ m / 2 ^ (m - e)
fill-part m x e h =
    let k : e + (m - e) ≡ m = omega arith in
    bits m x e h ∙ sym (field x e (m - e)) ∙ ap (λ (n : ℕ). x % 2 ^ n / 2 ^ (m - e)) k

-- a whole copy stands first, and then it starts again
pub fill-again : (m x e : ℕ) → fill m x (m + e) ≡ x % 2 ^ m * 2 ^ e + fill m x e
unfolding fill
fill-again m x zero = rw (add-zero m) (fill-part m x m (omega arith) ∙ simp (sub_self, div-one) (omega arith))
fill-again m x (suc e) =
    rw (add-suc, add-mod_left, fill-again m x e, pow-suc) (omega (arith, mul_assoc (x % 2 ^ m) (2 ^ e) 2))

pub up-low : (s d x : ℕ) → x ≤ 2 ^ (s - 1) → up s d x ≡ x * 2 ^ (d - s)
unfolding up
up-low s d x h = rw (le-leb x (2 ^ (s - 1)) h) (omega arith)

pub up-high : (s d x : ℕ) → 2 ^ (s - 1) < x → up s d x ≡ x * 2 ^ (d - s) + fill (s - 1) x (d - s)
unfolding up
up-high s d x h = rw (lt-leb x (2 ^ (s - 1)) h)

-- A row of shifts of r, which has m bits: k whole copies, and the l highest bits of one more below them. And the places
-- that it fills.
unfoldable pub places : ℕ → ℕ → ℕ → ℕ
places zero m l = l
places (suc k) m l = m + places k m l

unfoldable pub row : ℕ → ℕ → ℕ → ℕ → ℕ
row zero m l r = r / 2 ^ (m - l)
row (suc k) m l r = r * 2 ^ places k m l + row k m l r

row-fills : (k m l x : ℕ) → l ≤ m → row k m l (x % 2 ^ m) ≡ fill m x (places k m l)
unfolding row places
row-fills zero m l x h = sym (fill-part m x l h)
row-fills (suc k) m l x h = rw (row-fills k m l x h) (sym (fill-again m x (places k m l)))

row-picked : (t : Bool) (k m l x : ℕ) → l ≤ m → row k m l (cond t 0 (x % 2 ^ m)) ≡ cond t 0 (fill m x (places k m l))
row-picked true k m l x h = rw (zero-mod (2 ^ m)) at (row-fills k m l 0 h) ∙ fill-zero m (places k m l)
row-picked false k m l x h = row-fills k m l x h

-- the value moved up, with the row of what it repeats, is the value scaled up; so it fits 32 bits
pub up-row : (s d k l x r : ℕ) → x < 2 ^ s → s ≤ d → d ≤ 32 → l ≤ s - 1 → d - s ≡ places k (s - 1) l
    → r ≡ cond (leb x (2 ^ (s - 1))) 0 (x % 2 ^ (s - 1))
    → (x * 2 ^ (d - s) + row k (s - 1) l r ≡ up s d x) × (x * 2 ^ (d - s) + row k (s - 1) l r < 2 ^ 32)
unfolding up
up-row s d k l x r h i j u e f =
    let p : x * 2 ^ (d - s) + row k (s - 1) l r ≡ up s d x =
    rw (f, row-picked (leb x (2 ^ (s - 1))) k (s - 1) l x u, ← e) in
    (p, omega (arith, up_lt s d x i h, pow_mono {i = d} {j = 32} j))

up-zero : (s d : ℕ) → up s d 0 ≡ 0
up-zero s d = up-low s d 0 (omega arith) ∙ omega arith

up-centre : (s d : ℕ) → 1 ≤ s → s ≤ d → up s d (2 ^ (s - 1)) ≡ 2 ^ (d - 1)
up-centre s d h i =
    let e : (s - 1) + (d - s) ≡ d - 1 = omega arith in
    up-low s d (2 ^ (s - 1)) (omega arith) ∙ sym (pow-add 2 (s - 1) (d - s)) ∙ ap (λ (n : ℕ). 2 ^ n) e

-- of a value whose bits are all ones, every place gets a one
one_bit : (s k : ℕ) → k < s → (2 ^ s - 1) / 2 ^ k % 2 ≡ 1
one_bit s k h =
    let e : (s - k - 1) + 1 + k ≡ s = omega arith in
    let o : 2 ^ s - 1 ≡ (2 ^ ((s - k - 1) + 1) - 1) * 2 ^ k + (2 ^ k - 1) = rw e at (ones_split ((s - k - 1) + 1) k) in
    rw (o, high (2 ^ ((s - k - 1) + 1) - 1) k {lo = 2 ^ k - 1} (omega (arith, pow_pos k)))
    (omega (arith, ones_split (s - k - 1) 1))

fill-ones : (m e : ℕ) → 1 ≤ m → fill m (2 ^ suc m - 1) e ≡ 2 ^ e - 1
unfolding fill
fill-ones m zero h = omega arith
fill-ones m (suc e) h =
    rw (fill-ones m e h, one_bit (suc m) (m - 1 - e % m) (omega arith), pow-suc) (omega (arith, pow_pos e))

up-ones : (s d : ℕ) → 2 ≤ s → s ≤ d → up s d (2 ^ s - 1) ≡ 2 ^ d - 1
up-ones s d h i =
    let e : suc (s - 1) ≡ s = omega arith in
    let j : s + (d - s) ≡ d = omega arith in
    let f : fill (s - 1) (2 ^ s - 1) (d - s) ≡ 2 ^ (d - s) - 1 = rw e at (fill-ones (s - 1) (d - s) (omega arith)) in
    let o : 2 ^ d - 1 ≡ (2 ^ s - 1) * 2 ^ (d - s) + (2 ^ (d - s) - 1) = rw j at (ones_split s (d - s)) in
    let p : 2 ^ s ≡ 2 ^ (s - 1) * 2 = rw e at (pow-suc 2 (s - 1)) in
    let q : 2 ≤ 2 ^ (s - 1) = pow_mono {i = 1} {j = s - 1} (omega arith) in
    up-high s d (2 ^ s - 1) (omega arith) ∙ rw f (sym o)

up-order : (s d x y : ℕ) → x < y → up s d x < up s d y
unfolding up added
up-order s d x y h =
    let p = digits_lt h (added-lt s d x) in
    omega (arith, p)

pub proved-core-rules : CoreRules
proved-core-rules =
    record { back = down-up; fits = up_lt; minimum = up-zero; centre = up-centre; maximum = up-ones; order = up-order }
