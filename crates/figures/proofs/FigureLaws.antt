-- Digits behind the point: how many there are, that a loop stores them, and that they lose nothing. Assumes nothing.
use Prim.Native.Nat.{ℕ, zero, suc, ◌+◌, ◌*◌, ◌-◌, ◌/◌, ◌%◌, ◌^◌, ◌≤◌, ◌<◌}
use mathlib.Core.Path.{◌≡◌, refl, sym, ap, ◌∙◌}
use mathlib.Core.List.{List, [], ◌∷◌, ◌++◌, append_assoc, append-nil}
use native.Mathlib.Omega.{arith}
use native.Mathlib.Nat.{mul_assoc, mul_comm, mul_right_comm, mul-sub, pow-suc, zero-add}
use lib.Dec.{eqb}
use lib.ListN.{length, length-append, set}
use lib.Seq.{sets}
use borrow.Author.Tests.{eq-eqb, eqb-true, ne_eqb}
use lib.Pow.{pow-add}
use Rattle.ground.proofs.Cases.{choose}
use Rattle.ground.proofs.Stores.{sets-append}
use Rattle.text.specs.Lines.{decimal, places}
use Rattle.text.proofs.LineLaws.{digits-length, places-few}
use Rattle.figures.specs.Figures.{Exactly, exact_decimal, fraction, fraction_digits, read_after}

pub digits-few : (k r : ℕ) → length (fraction_digits k r) ≤ k
unfolding fraction_digits
digits-few zero r = omega arith
digits-few (suc k) r =
    choose (λ (l : List ℕ). length l ≤ suc k) (eqb r 0) (λ _. omega arith)
    (λ _. omega (arith, digits-few k (r * 10 % 2 ^ 31)))

pub no-digits : (k r : ℕ) → r ≡ 0 → fraction_digits k r ≡ []
unfolding fraction_digits
no-digits zero r e = refl
no-digits (suc k) r e = rw (eq-eqb r 0 e)

a-digit : (k r : ℕ) → 0 < k → (r ≡ 0 → ⊥)
    → fraction_digits k r ≡ (48 + r * 10 / 2 ^ 31) ∷ fraction_digits (k - 1) (r * 10 % 2 ^ 31)
unfolding fraction_digits
a-digit zero r p h = absurd (omega arith)
a-digit (suc k) r p h =
    let left : suc k - 1 ≡ k = omega arith in
    rw (left, ne_eqb r 0 h)

-- ---- the loop

module _ (row₀ : List ℕ) (at rest : ℕ) where
  -- the digits that are stored, and those of the places left, are all
  pub record Stored (row : List ℕ) (left end : ℕ) : Type 0 where
    pub before : List ℕ
    pub more : ℕ
    pub count : length before + more ≡ 31
    pub small : left < 2 ^ 31
    pub place : end ≡ at + length before
    pub is : row ≡ sets row₀ at before
    pub all : fraction_digits 31 rest ≡ before ++ fraction_digits more left

  pub start : rest < 2 ^ 31 → Stored row₀ rest at
  start h =
      record { before = []; more = 31; count = refl; small = h; place = omega arith; is = refl; all = refl }

  pub step : (row : List ℕ) (left end : ℕ) → Stored row left end → end < at + 31 → (left ≡ 0 → ⊥)
      → Stored (set row end (48 + left * 10 / 2 ^ 31)) (left * 10 % 2 ^ 31) (end + 1)
  step row left end s h n =
      let d = 48 + left * 10 / 2 ^ 31 in
      let one = length-append s.before (d ∷ []) in
      let some : 0 < s.more = omega (arith, s.count, s.place, h) in
      record {
        before = s.before ++ (d ∷ []);
        more = s.more - 1;
        count = omega (arith, one, s.count, some);
        small = omega arith;
        place = omega (arith, one, s.place);
        is = rw (s.is, s.place) (sym (sets-append row₀ at s.before (d ∷ [])));
        all = s.all
            ∙ rw (a-digit s.more left some n)
            (sym (append_assoc s.before (d ∷ []) (fraction_digits (s.more - 1) (left * 10 % 2 ^ 31))));
      }

  -- nothing is left, of the number or of the places
  pub finish : (row : List ℕ) (left end : ℕ) (s : Stored row left end) → fraction_digits s.more left ≡ []
      → (end ≡ at + length (fraction_digits 31 rest)) × (row ≡ sets row₀ at (fraction_digits 31 rest))
  finish row left end s e =
      let a : fraction_digits 31 rest ≡ s.before = s.all ∙ rw e (append-nil s.before) in
      rw a (s.place, s.is)

pub no_more : (more left : ℕ) → more ≤ 0 → fraction_digits more left ≡ []
unfolding fraction_digits
no_more zero left h = refl
no_more (suc k) left h = absurd (omega arith)

-- ---- the whole number

pub exact-whole : (n : ℕ) → n % 2 ^ 31 ≡ 0 → exact_decimal n ≡ decimal (n / 2 ^ 31)
unfolding exact_decimal fraction
exact-whole n e = rw (eq-eqb (n % 2 ^ 31) 0 e) (append-nil (decimal (n / 2 ^ 31)))

pub exact-point : (n : ℕ) → (n % 2 ^ 31 ≡ 0 → ⊥)
    → exact_decimal n ≡ decimal (n / 2 ^ 31) ++ (46 ∷ fraction_digits 31 (n % 2 ^ 31))
unfolding exact_decimal fraction
exact-point n h = rw (ne_eqb (n % 2 ^ 31) 0 h)

-- a whole number of 64 bits has at most 20 digits
pub whole-few : (n : ℕ) → n < 2 ^ 64 → length (decimal (n / 2 ^ 31)) ≤ 20
whole-few n h =
    omega (arith, digits-length 10 (places (n / 2 ^ 31)) (n / 2 ^ 31), places-few (n / 2 ^ 31) (omega arith))

-- ---- nothing is lost

sub-mul : (m n k : ℕ) → (m - n) * k ≡ m * k - n * k
sub-mul m n k =
    mul_comm (m - n) k ∙ mul-sub k m n ∙ ap (λ (z : ℕ). z - k * n) (mul_comm k m)
    ∙ ap (λ (z : ℕ). m * k - z) (mul_comm k n)

-- tenfold, one more factor 2 is there, and what stands before the point is a multiple of it
halved : (k j m r : ℕ) → suc k + j ≡ 31 → r ≡ m * 2 ^ j
    → r * 10 % 2 ^ 31 ≡ (m * 5 - r * 10 / 2 ^ 31 * 2 ^ k) * 2 ^ suc j
halved k j m r e f =
    let q = r * 10 / 2 ^ 31 in
    let s : k + suc j ≡ 31 = omega arith in
    let whole : 2 ^ k * 2 ^ suc j ≡ 2 ^ 31 = sym (pow-add 2 k (suc j)) ∙ ap (λ (n : ℕ). 2 ^ n) s in
    let up : m * 5 * 2 ^ suc j ≡ r * 10 =
    rw (pow-suc 2 j) (sym (mul_assoc (m * 5) (2 ^ j) 2) ∙ omega (arith, mul_right_comm m 5 (2 ^ j), f)) in
    let down : q * 2 ^ k * 2 ^ suc j ≡ q * 2 ^ 31 = mul_assoc q (2 ^ k) (2 ^ suc j) ∙ ap (λ (n : ℕ). q * n) whole in
    let part = sub-mul (m * 5) (q * 2 ^ k) (2 ^ suc j) in
    omega (arith, part, up, down)

pub read_back : (k j m r n : ℕ) → k + j ≡ 31 → r ≡ m * 2 ^ j → r < 2 ^ 31
    → read_after n (fraction_digits k r) * 2 ^ 31 ≡ (n * 2 ^ 31 + r) * 10 ^ length (fraction_digits k r)
unfolding fraction_digits read_after
read_back zero j m r n e f h =
    let z : j ≡ 31 = omega arith in
    let g : r ≡ m * 2 ^ 31 = rw z at f in
    omega arith
read_back (suc k) j m r n e f h =
    choose (λ (l : List ℕ). read_after n l * 2 ^ 31 ≡ (n * 2 ^ 31 + r) * 10 ^ length l) (eqb r 0)
    (λ z. omega (arith, eqb-true r 0 z))
    (λ z.
    let q = r * 10 / 2 ^ 31 in
    let d : 48 + q - 48 ≡ q = omega arith in
    let l = length (fraction_digits k (r * 10 % 2 ^ 31)) in
    let on : (n * 10 + q) * 2 ^ 31 + r * 10 % 2 ^ 31 ≡ (n * 2 ^ 31 + r) * 10 = omega arith in
    let t : (n * 2 ^ 31 + r) * 10 * 10 ^ l ≡ (n * 2 ^ 31 + r) * 10 ^ suc l =
    mul_assoc (n * 2 ^ 31 + r) 10 (10 ^ l)
    ∙ ap (λ (x : ℕ). (n * 2 ^ 31 + r) * x) (mul_comm 10 (10 ^ l) ∙ sym (pow-suc 10 l)) in
    ap (λ (x : ℕ). read_after (n * 10 + x) (fraction_digits k (r * 10 % 2 ^ 31)) * 2 ^ 31) d
    ∙ read_back k (suc j) (m * 5 - q * 2 ^ k) (r * 10 % 2 ^ 31) (n * 10 + q) (omega arith) (halved k j m r e f)
    (omega arith)
    ∙ ap (λ (x : ℕ). x * 10 ^ l) on ∙ t)

pub proved-exactly : Exactly
proved-exactly r h =
    record {
      value = rw (zero-add r) at (read_back 31 0 r r 0 refl (omega arith) h);
      few = digits-few 31 r;
    }
