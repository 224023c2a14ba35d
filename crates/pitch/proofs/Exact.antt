-- The operators on floats at dyadic values: each loses nothing where the result's whole number has no more digits than
-- the format keeps. Stated once, over the format f, the digits b and the exponent k. Assumes nothing.
use mathlib.Core.Path.{◌≡◌, refl, sym, ap, ◌∙◌, subst}
use mathlib.Core.Bool.{Bool, true, false, not, cond, ◌&&◌, true≢false}
use Prim.Native.Nat.{ℕ, zero, suc, ◌+◌, ◌-◌, ◌*◌, ◌/◌, ◌^◌, ◌≤◌, ◌<◌, zero-le}
use native.Mathlib.Nat.{zero-add, mul-sub, mul-le-mul_right, add-zero, eq-or-lt_of_le, lt_of_mul-lt-mul_right, le_of_mul-le-mul_right, lt_of_lt_of_le, lt_of_le_of_lt, le_of_lt, mul_assoc, mul_comm, mul_right_comm, mul-mul-mul_comm, mul-pos, mul-one, one-mul, zero-mul, mul-zero, add-mul, mul-lt-mul_of_pos_right, mul-le-mul_left, mul-div_cancel}
use native.Mathlib.Omega.{arith}
use lib.IntN.{ℤ, pos, negsuc, nat_abs, neg_ℤ, ◌+ℤ◌, ◌-ℤ◌, ◌*ℤ◌, +ℤ_comm, +ℤ_invl, neg_ℤ-+ℤ, neg_ℤ-neg_ℤ}
use lib.Dec.{T, ltb, ltb→lt, lt→ltb, nltb→le, lit<}
use lib.Arith.{le→nltb}
use mathlib.Core.Logic.{◌⊎◌, inl, inr}
use lib.Pow.{pow-add, pow_pos, pow_mono, pow-lt, shl_lt, add-lt-pow}
use lib.Ieee.{Float, nan, inf, fin, Format, binary64, prec, emax, low, up, down, unlike, round, neg, add, sub, sum, mul, div, of_int}
use lib.Ieee.Fits.{down_pos, reach}
use lib.Ieee.Exact.{HasValue, round_exact}
use lib.Ieee.Scale.{round_same}
use Rattle.pitch.specs.Dyadic.{Dyadic, nearest, signed, times2}

-- ---- rounding

room : (p d l t : ℕ) → p ≤ t → d ≤ l → p + d ≤ l + t
room p d l t h k = omega arith

sub-le : (l k : ℕ) → l - k ≤ l
sub-le l k = omega arith

back : (l k : ℕ) → k ≤ l → l - k + k ≡ l
back l k h = omega arith

-- n / 2 ^ k is a value of the format
at-power : (f : Format) (s : Bool) (n k : ℕ) → n < 2 ^ prec f → k ≤ low f → HasValue (round f s n (2 ^ k)) s n (2 ^ k)
at-power f s n k h K =
    round_exact f s n (2 ^ k) n (low f - k) (pow_pos k) h
    (lt_of_lt_of_le (shl_lt (prec f) (low f - k) h) (pow_mono (room (prec f) (low f - k) (low f) (suc (emax f)) (reach f) (sub-le (low f) k))))
    (ap (λ (x : ℕ). n * x) (sym (ap (λ (x : ℕ). 2 ^ x) (back (low f) k K)) ∙ pow-add 2 (low f - k) k) ∙ sym (mul_assoc n (2 ^ (low f - k)) (2 ^ k)))

-- a fraction num / den that is n / 2 ^ k rounds to it
pub rounds : (f : Format) (s : Bool) (num den n k : ℕ) → 0 < den → n < 2 ^ prec f → k ≤ low f → num * 2 ^ k ≡ n * den → HasValue (round f s num den) s n (2 ^ k)
rounds f s num den n k D h K e =
    subst (λ (x : Float). HasValue x s n (2 ^ k)) (sym (round_same f s num den n (2 ^ k) D (pow_pos k) e)) (at-power f s n k h K)

-- ---- whole numbers by sign and size

signed_mul : (s t : Bool) (a b : ℕ) → signed s a *ℤ signed t b ≡ signed (unlike s t) (a * b)
signed_mul false false a b = refl
signed_mul false true a zero = simp mul-zero
signed_mul false true a (suc b) = refl
signed_mul true false zero b = simp zero-mul
signed_mul true false (suc a) b = refl
signed_mul true true zero zero = refl
signed_mul true true zero (suc b) = simp zero-mul
signed_mul true true (suc a) zero = simp mul-zero
signed_mul true true (suc a) (suc b) = refl

chosen : {A : Type 0} (c : Bool) (x y : A) → T c → cond c x y ≡ x
chosen true x y t = refl
chosen false x y t = absurd t

left_out : {A : Type 0} (c : Bool) (x y : A) → T (not c) → cond c x y ≡ y
left_out true x y t = absurd t
left_out false x y t = refl

one_more : (a b : ℕ) → a < suc b → suc b - a ≡ suc (suc b - suc a)
one_more a b h = omega arith

not-below : (a : ℕ) → a < 0 → ⊥
not-below a h = omega arith

minus-zero : (a : ℕ) → a - 0 ≡ a
minus-zero a = omega arith

less : (a b : ℕ) → a < b → pos a +ℤ neg_ℤ (pos b) ≡ neg_ℤ (pos (b - a))
less a zero h = absurd (not-below a h)
less a (suc b) h = chosen (ltb a (suc b)) _ _ (lt→ltb a (suc b) h) ∙ sym (ap (λ (n : ℕ). neg_ℤ (pos n)) (one_more a b h))

more : (a b : ℕ) → b ≤ a → pos a +ℤ neg_ℤ (pos b) ≡ pos (a - b)
more a zero h = ap pos (add-zero a ∙ sym (minus-zero a))
more a (suc b) h = left_out (ltb a (suc b)) _ _ (le→nltb a (suc b) h)

signed_add : (s : Bool) (a b : ℕ) → signed s a +ℤ signed s b ≡ signed s (a + b)
signed_add false a b = refl
signed_add true a b = sym (neg_ℤ-+ℤ (pos a) (pos b))

signed-less : (s : Bool) (a b : ℕ) → a < b → signed s a +ℤ signed (not s) b ≡ signed (not s) (b - a)
signed-less false a b h = less a b h
signed-less true a b h = +ℤ_comm (neg_ℤ (pos a)) (pos b) ∙ more b a (le_of_lt h)

signed-more : (s : Bool) (a b : ℕ) → b ≤ a → signed s a +ℤ signed (not s) b ≡ signed s (a - b)
signed-more false a b h = more a b h
signed-more true a b h = go (eq-or-lt_of_le h)
  where
    nothing : (a : ℕ) → a - a ≡ 0
    nothing a = omega arith

    go : (b ≡ a) ⊎ (b < a) → neg_ℤ (pos a) +ℤ pos b ≡ neg_ℤ (pos (a - b))
    go (inl e) = ap (λ (n : ℕ). neg_ℤ (pos a) +ℤ pos n) e ∙ +ℤ_invl (pos a) ∙ sym (ap (λ (n : ℕ). neg_ℤ (pos (a - n))) e ∙ ap (λ (n : ℕ). neg_ℤ (pos n)) (nothing a))
    go (inr l) = +ℤ_comm (neg_ℤ (pos a)) (pos b) ∙ less b a l

-- ---- a dyadic value with its own sign

pub record Own (b k : ℕ) (s : Bool) (m : ℕ) (e : ℤ) (z : ℤ) : Type 0 where
  pub size : ℕ
  pub value : m * up e * 2 ^ k ≡ size * down e
  pub small : size < 2 ^ b
  pub whole : z ≡ signed s size

own : (b k : ℕ) (s : Bool) (m : ℕ) (e z : ℤ) → Dyadic b k (fin s m e) z → Own b k s m e z
own b k s m e z D = record {
  size = D.size;
  value = D.value.1;
  small = D.small;
  whole = D.whole ∙ ap (λ (t : Bool). signed t D.size) (sym D.value.0);
}

made : (b k : ℕ) (x : Float) (z : ℤ) (s : Bool) (n : ℕ) → HasValue x s n (2 ^ k) → n < 2 ^ b → z ≡ signed s n → Dyadic b k x z
made b k x z s n v h w = record { sign = s; size = n; value = v; small = h; whole = w }

-- more digits allowed
pub widened : {b c k : ℕ} {x : Float} {z : ℤ} → b ≤ c → Dyadic b k x z → Dyadic c k x z
widened {b} {c} {k} {x} {z} h D = made c k x z D.sign D.size D.value (lt_of_lt_of_le D.small (pow_mono h)) D.whole

-- ---- the product

below : (b c : ℕ) {m n : ℕ} → m < 2 ^ b → n < 2 ^ c → m * n < 2 ^ (b + c)
below b c {m} {n} hm hn =
    subst (λ (z : ℕ). m * n < z) (sym (pow-add 2 b c)) (lt_of_le_of_lt (mul-le-mul_left m (le_of_lt hn)) (mul-lt-mul_of_pos_right hm (pow_pos c)))

product : (M D N G a b k j : ℕ) → M * 2 ^ k ≡ a * D → N * 2 ^ j ≡ b * G → M * N * 2 ^ (k + j) ≡ a * b * (D * G)
product M D N G a b k j p q =
    ap (λ (z : ℕ). M * N * z) (pow-add 2 k j)
    ∙ mul-mul-mul_comm M N (2 ^ k) (2 ^ j)
    ∙ ap (λ (z : ℕ). z * (N * 2 ^ j)) p
    ∙ ap (λ (z : ℕ). a * D * z) q
    ∙ mul-mul-mul_comm a D b G

pub times : (f : Format) (b c k j : ℕ) (x y : Float) (p q : ℤ) → b + c ≤ prec f → k + j ≤ low f
    → Dyadic b k x p → Dyadic c j y q → Dyadic (b + c) (k + j) (mul f x y) (p *ℤ q)
unfolding mul
times f b c k j nan y p q P K X Y = absurd X.value
times f b c k j (inf s) y p q P K X Y = absurd X.value
times f b c k j (fin s m e) nan p q P K X Y = absurd Y.value
times f b c k j (fin s m e) (inf t) p q P K X Y = absurd Y.value
times f b c k j (fin s m e) (fin t n d) p q P K X Y =
    let A = own b k s m e p X in
    let B = own c j t n d q Y in
    let fit = below b c A.small B.small in
    made (b + c) (k + j) _ _ (unlike s t) (A.size * B.size)
    (rounds f (unlike s t) (m * up e * (n * up d)) (down e * down d) (A.size * B.size) (k + j) (mul-pos (down_pos e) (down_pos d)) (lt_of_lt_of_le fit (pow_mono P)) K
    (product (m * up e) (down e) (n * up d) (down d) A.size B.size k j A.value B.value))
    fit
    (ap (λ (z : ℤ). z *ℤ q) A.whole ∙ ap (λ (z : ℤ). signed s A.size *ℤ z) B.whole ∙ signed_mul s t A.size B.size)

-- ---- the quotient by 2 ^ j

unlike-false : (s : Bool) → unlike s false ≡ s
unlike-false false = refl
unlike-false true = refl

quotient : (M D a k j : ℕ) → M * 2 ^ k ≡ a * D → M * 1 * 2 ^ (k + j) ≡ a * (1 * 2 ^ j * D)
quotient M D a k j p =
    ap (λ (z : ℕ). z * 2 ^ (k + j)) (mul-one M)
    ∙ ap (λ (z : ℕ). M * z) (pow-add 2 k j)
    ∙ sym (mul_assoc M (2 ^ k) (2 ^ j))
    ∙ ap (λ (z : ℕ). z * 2 ^ j) p
    ∙ mul_assoc a D (2 ^ j)
    ∙ ap (λ (z : ℕ). a * z) (mul_comm D (2 ^ j) ∙ ap (λ (z : ℕ). z * D) (sym (one-mul (2 ^ j))))

pub over : (f : Format) (b k j : ℕ) (x : Float) (p : ℤ) → b ≤ prec f → k + j ≤ low f → Dyadic b k x p → Dyadic b (k + j) (div f x (fin false 1 (pos j))) p
unfolding div
over f b k j nan p P K X = absurd X.value
over f b k j (inf s) p P K X = absurd X.value
over f b k j (fin s m e) p P K X =
    let A = own b k s m e p X in
    made b (k + j) _ _ (unlike s false) A.size
    (rounds f (unlike s false) (m * up e * 1) (1 * 2 ^ j * down e) A.size (k + j) (mul-pos (mul-pos (lit< tt) (pow_pos j)) (down_pos e)) (lt_of_lt_of_le A.small (pow_mono P)) K
    (quotient (m * up e) (down e) A.size k j A.value))
    A.small
    (A.whole ∙ ap (λ (t : Bool). signed t A.size) (sym (unlike-false s)))

-- ---- the sum and the difference

cross : (M D G a k : ℕ) → M * 2 ^ k ≡ a * D → M * G * 2 ^ k ≡ a * (D * G)
cross M D G a k p = mul_right_comm M G (2 ^ k) ∙ ap (λ (z : ℕ). z * G) p ∙ mul_assoc a D G

-- A and B in the proportion of a and b, K for c
together : (A B K a b c : ℕ) → A * K ≡ a * c → B * K ≡ b * c → (A + B) * K ≡ (a + b) * c
together A B K a b c p q = add-mul A B K ∙ ap (λ (z : ℕ). z + B * K) p ∙ ap (λ (z : ℕ). a * c + z) q ∙ sym (add-mul a b c)

sub-mul : (m n k : ℕ) → (m - n) * k ≡ m * k - n * k
sub-mul m n k = mul_comm (m - n) k ∙ mul-sub k m n ∙ ap (λ (z : ℕ). z - k * n) (mul_comm k m) ∙ ap (λ (z : ℕ). m * k - z) (mul_comm k n)

apart : (A B K a b c : ℕ) → A * K ≡ a * c → B * K ≡ b * c → (A - B) * K ≡ (a - b) * c
apart A B K a b c p q = sub-mul A B K ∙ ap (λ (z : ℕ). z - B * K) p ∙ ap (λ (z : ℕ). a * c - z) q ∙ sym (sub-mul a b c)

in_order : (A B K a b c : ℕ) → 0 < K → A * K ≡ a * c → B * K ≡ b * c → A < B → a < b
in_order A B K a b c P p q h =
    lt_of_mul-lt-mul_right c (subst (λ (z : ℕ). z < b * c) p (subst (λ (z : ℕ). A * K < z) q (mul-lt-mul_of_pos_right h P)))

in-order-le : (A B K a b c : ℕ) → 0 < c → A * K ≡ a * c → B * K ≡ b * c → A ≤ B → a ≤ b
in-order-le A B K a b c P p q h =
    le_of_mul-le-mul_right (subst (λ (z : ℕ). z ≤ b * c) p (subst (λ (z : ℕ). A * K ≤ z) q (mul-le-mul_right K h))) P

both_small : (b : ℕ) {m n : ℕ} → m < 2 ^ b → n < 2 ^ b → m + n < 2 ^ suc b
both_small b hm hn = add-lt-pow b hm hn

one-small : (b m n : ℕ) → m < 2 ^ b → m - n < 2 ^ suc b
one-small b m n h = lt_of_le_of_lt (sub-le m n) (lt_of_lt_of_le h (pow_mono (up_one b)))
  where
    up_one : (b : ℕ) → b ≤ suc b
    up_one b = omega arith

-- the sign that a difference of equal sizes takes is of no matter
any_sign : (s c : Bool) (n : ℕ) → (T (not c) → n ≡ 0) → signed s n ≡ signed (s && c) n
any_sign false c n h = refl
any_sign true true n h = refl
any_sign true false n h = ap (λ (z : ℕ). neg_ℤ (pos z)) (h tt) ∙ sym (ap pos (h tt))

none_left : (a b : ℕ) → a ≤ b → a - b ≡ 0
none_left a b h = omega arith

module _ (f : Format) (b k : ℕ) (P : suc b ≤ prec f) (K : k ≤ low f) (A B C x y : ℕ) (Cp : 0 < C) (p : A * 2 ^ k ≡ x * C) (q : B * 2 ^ k ≡ y * C) (hx : x < 2 ^ b) (hy : y < 2 ^ b) where
  rounded : (s : Bool) (num n : ℕ) (z : ℤ) → num * 2 ^ k ≡ n * C → n < 2 ^ suc b → z ≡ signed s n → Dyadic (suc b) k (round f s num C) z
  rounded s num n z e h w = made (suc b) k _ z s n (rounds f s num C n k Cp (lt_of_lt_of_le h (pow_mono P)) K e) h w

  alike : (s : Bool) → Dyadic (suc b) k (round f s (A + B) C) (signed s x +ℤ signed s y)
  alike s = rounded s (A + B) (x + y) _ (together A B (2 ^ k) x y C p q) (both_small b hx hy) (signed_add s x y)

  differing : (s c d : Bool) → (T c → A < B) → (T (not c) → B ≤ A) → (T (not d) → A ≤ B)
      → Dyadic (suc b) k (cond c (round f (not s) (B - A) C) (round f (s && d) (A - B) C)) (signed s x +ℤ signed (not s) y)
  differing s true d lt ge le =
      rounded (not s) (B - A) (y - x) _ (apart B A (2 ^ k) y x C q p) (one-small b y x hy) (signed-less s x y (in_order A B (2 ^ k) x y C (pow_pos k) p q (lt tt)))
  differing s false d lt ge le =
      rounded (s && d) (A - B) (x - y) _ (apart A B (2 ^ k) x y C p q) (one-small b x y hx)
      (signed-more s x y (in-order-le B A (2 ^ k) y x C Cp q p (ge tt)) ∙ any_sign s d (x - y) (λ t. none_left x y (in-order-le A B (2 ^ k) x y C Cp p q (le t))))

  summed : (s t : Bool) → Dyadic (suc b) k (sum f s A t B C) (signed s x +ℤ signed t y)
  unfolding sum
  summed false false = alike false
  summed true true = alike true
  summed false true = differing false (ltb A B) (ltb B A) (ltb→lt A B) (nltb→le A B) (nltb→le B A)
  summed true false = differing true (ltb A B) (ltb B A) (ltb→lt A B) (nltb→le A B) (nltb→le B A)

pub plus : (f : Format) (b k : ℕ) (x y : Float) (p q : ℤ) → suc b ≤ prec f → k ≤ low f
    → Dyadic b k x p → Dyadic b k y q → Dyadic (suc b) k (add f x y) (p +ℤ q)
unfolding add
plus f b k nan y p q P K X Y = absurd X.value
plus f b k (inf s) y p q P K X Y = absurd X.value
plus f b k (fin s m e) nan p q P K X Y = absurd Y.value
plus f b k (fin s m e) (inf t) p q P K X Y = absurd Y.value
plus f b k (fin s m e) (fin t n d) p q P K X Y =
    let A = own b k s m e p X in
    let B = own b k t n d q Y in
    subst (λ (z : ℤ). Dyadic (suc b) k (sum f s (m * up e * down d) t (n * up d * down e) (down e * down d)) z)
    (sym (ap (λ (z : ℤ). z +ℤ q) A.whole ∙ ap (λ (z : ℤ). signed s A.size +ℤ z) B.whole))
    (summed f b k P K (m * up e * down d) (n * up d * down e) (down e * down d) A.size B.size (mul-pos (down_pos e) (down_pos d))
    (cross (m * up e) (down e) (down d) A.size k A.value)
    (cross (n * up d) (down d) (down e) B.size k B.value ∙ ap (λ (z : ℕ). B.size * z) (mul_comm (down d) (down e)))
    A.small B.small s t)

signed-neg : (s : Bool) (n : ℕ) → neg_ℤ (signed s n) ≡ signed (not s) n
signed-neg false n = refl
signed-neg true n = neg_ℤ-neg_ℤ (pos n)

pub negated : (b k : ℕ) (x : Float) (p : ℤ) → Dyadic b k x p → Dyadic b k (neg x) (neg_ℤ p)
unfolding neg
negated b k nan p X = absurd X.value
negated b k (inf s) p X = absurd X.value
negated b k (fin s m e) p X =
    let A = own b k s m e p X in made b k _ _ (not s) A.size (refl, A.value) A.small (ap neg_ℤ A.whole ∙ signed-neg s A.size)

pub minus : (f : Format) (b k : ℕ) (x y : Float) (p q : ℤ) → suc b ≤ prec f → k ≤ low f
    → Dyadic b k x p → Dyadic b k y q → Dyadic (suc b) k (sub f x y) (p -ℤ q)
unfolding sub
minus f b k x y p q P K X Y = plus f b k x (neg y) p (neg_ℤ q) P K X (negated b k y q Y)

-- ---- an integer

pub whole : (f : Format) (b n : ℕ) → b ≤ prec f → n < 2 ^ b → Dyadic b 0 (of_int f (pos n)) (pos n)
unfolding of_int
whole f b n P h = made b 0 _ _ false n (rounds f false n 1 n 0 (lit< tt) (lt_of_lt_of_le h (pow_mono P)) zero-le refl) h refl

-- ---- the same value, in smaller parts

finer-value : (x : Float) (s : Bool) (n k j : ℕ) → HasValue x s n (2 ^ k) → HasValue x s (n * 2 ^ j) (2 ^ (k + j))
finer-value nan s n k j v = v
finer-value (inf t) s n k j v = v
finer-value (fin t m e) s n k j v = (
  v.0,
  ap (λ (z : ℕ). m * up e * z) (pow-add 2 k j) ∙ sym (mul_assoc (m * up e) (2 ^ k) (2 ^ j)) ∙ ap (λ (z : ℕ). z * 2 ^ j) v.1 ∙ mul_right_comm n (down e) (2 ^ j),
)

pub finer : (b k j : ℕ) (x : Float) (p : ℤ) → Dyadic b k x p → Dyadic (b + j) (k + j) x (p *ℤ pos (2 ^ j))
finer b k j x p X =
    made (b + j) (k + j) x _ X.sign (X.size * 2 ^ j) (finer-value x X.sign X.size k j X.value) (shl_lt b j X.small)
    (ap (λ (z : ℤ). z *ℤ pos (2 ^ j)) X.whole ∙ signed_mul X.sign false X.size (2 ^ j) ∙ ap (λ (t : Bool). signed t (X.size * 2 ^ j)) (unlike-false X.sign))

-- ---- 2 ^ j, as a constant

pub power : (b j : ℕ) → j < b → Dyadic b 0 (fin false 1 (pos j)) (pos (2 ^ j))
power b j h = made b 0 _ _ false (2 ^ j) (refl, ap (λ (z : ℕ). z * 1) (one-mul (2 ^ j))) (pow-lt h) refl

-- the same, at an equal whole number
pub equal : {b k : ℕ} {x : Float} {y z : ℤ} → y ≡ z → Dyadic b k x z → Dyadic b k x y
equal {b} {k} {x} {y} {z} e D = made b k x y D.sign D.size D.value D.small (e ∙ D.whole)

-- ---- as equations: the result is the one float that is nearest, +0 for 0

cast-value : (n : ℕ) → n < 2 ^ 53 → HasValue (of_int binary64 (pos n)) false n 1
unfolding of_int
cast-value n h = at-power binary64 false n 0 h zero-le

pub cast_is : (n k : ℕ) → of_int binary64 (pos n) ≡ nearest k (pos (n * 2 ^ k))
unfolding of_int nearest
cast_is n k = round_same binary64 false n 1 (n * 2 ^ k) (2 ^ k) (lit< tt) (pow_pos k) (sym (mul-one (n * 2 ^ k)))

over-at : (x : Float) (n j : ℕ) → HasValue x false n 1 → div binary64 x (fin false 1 (pos j)) ≡ round binary64 false n (2 ^ j)
unfolding div
over-at nan n j v = absurd v
over-at (inf s) n j v = absurd v
over-at (fin true m e) n j v = absurd (true≢false v.0)
over-at (fin false m e) n j v =
    round_same binary64 false (m * up e * 1) (1 * 2 ^ j * down e) n (2 ^ j) (mul-pos (mul-pos (lit< tt) (pow_pos j)) (down_pos e)) (pow_pos j)
    (subst (λ (z : ℕ). m * up e * 1 * 2 ^ z ≡ n * (1 * 2 ^ j * down e)) (zero-add j) (quotient (m * up e) (down e) n 0 j v.1))

-- n / 2 ^ j as parts of 2 ^ (j + i)
pub over-is : (n j i : ℕ) → n < 2 ^ 53 → div binary64 (of_int binary64 (pos n)) (fin false 1 (pos j)) ≡ nearest (j + i) (pos (n * 2 ^ i))
unfolding nearest
over-is n j i h =
    over-at (of_int binary64 (pos n)) n j (cast-value n h)
    ∙ round_same binary64 false n (2 ^ j) (n * 2 ^ i) (2 ^ (j + i)) (pow_pos j) (pow_pos (j + i))
    (ap (λ (z : ℕ). n * z) (pow-add 2 j i ∙ mul_comm (2 ^ j) (2 ^ i)) ∙ sym (mul_assoc n (2 ^ i) (2 ^ j)))

below-is : (k a b : ℕ) → a < b → round binary64 true (b - a) (2 ^ k) ≡ nearest k (neg_ℤ (pos (b - a)))
unfolding nearest
below-is k a b h =
    ap (λ (n : ℕ). round binary64 true n (2 ^ k)) (split_off a b h) ∙ sym (ap (λ (n : ℕ). nearest k (neg_ℤ (pos n))) (split_off a b h))
  where
    split_off : (a b : ℕ) → a < b → b - a ≡ suc (b - suc a)
    split_off a b h = omega arith

module _ (k A B C x y : ℕ) (Cp : 0 < C) (p : A * 2 ^ k ≡ x * C) (q : B * 2 ^ k ≡ y * C) where
  picked : (c : Bool) → (T c → A < B) → (T (not c) → B ≤ A)
      → cond c (round binary64 true (B - A) C) (round binary64 false (A - B) C) ≡ nearest k (pos x +ℤ neg_ℤ (pos y))
  unfolding nearest
  picked true lt ge =
      let h = in_order A B (2 ^ k) x y C (pow_pos k) p q (lt tt) in
      round_same binary64 true (B - A) C (y - x) (2 ^ k) Cp (pow_pos k) (apart B A (2 ^ k) y x C q p) ∙ below-is k x y h ∙ sym (ap (nearest k) (less x y h))
  picked false lt ge =
      round_same binary64 false (A - B) C (x - y) (2 ^ k) Cp (pow_pos k) (apart A B (2 ^ k) x y C p q)
      ∙ sym (ap (nearest k) (more x y (in-order-le B A (2 ^ k) y x C Cp q p (ge tt))))

  sum_is : (t : Bool) → sum binary64 false A t B C ≡ nearest k (pos x +ℤ signed t y)
  unfolding sum nearest
  sum_is false = round_same binary64 false (A + B) C (x + y) (2 ^ k) Cp (pow_pos k) (together A B (2 ^ k) x y C p q)
  sum_is true = picked (ltb A B) (ltb→lt A B) (nltb→le A B)

-- the sum with a value that is not negative, nor -0
pub plus-is : (b k : ℕ) (x y : Float) (n : ℕ) (q : ℤ) → HasValue x false n (2 ^ k) → Dyadic b k y q → add binary64 x y ≡ nearest k (pos n +ℤ q)
unfolding add
plus-is b k nan y n q X Y = absurd X
plus-is b k (inf s) y n q X Y = absurd X
plus-is b k (fin s m e) nan n q X Y = absurd Y.value
plus-is b k (fin s m e) (inf t) n q X Y = absurd Y.value
plus-is b k (fin true m e) (fin t l d) n q X Y = absurd (true≢false X.0)
plus-is b k (fin false m e) (fin t l d) n q X Y =
    let B = own b k t l d q Y in
    sum_is k (m * up e * down d) (l * up d * down e) (down e * down d) n B.size (mul-pos (down_pos e) (down_pos d))
    (cross (m * up e) (down e) (down d) n k X.1)
    (cross (l * up d) (down d) (down e) B.size k B.value ∙ ap (λ (z : ℕ). B.size * z) (mul_comm (down d) (down e)))
    t
    ∙ ap (λ (z : ℤ). nearest k (pos n +ℤ z)) (sym B.whole)

pub nearest-value : (k n : ℕ) → n < 2 ^ 53 → k ≤ 1074 → HasValue (nearest k (pos n)) false n (2 ^ k)
unfolding nearest
nearest-value k n h K = at-power binary64 false n k h K

pub below-value : (k n : ℕ) → suc n < 2 ^ 53 → k ≤ 1074 → HasValue (nearest k (negsuc n)) true (suc n) (2 ^ k)
unfolding nearest
below-value k n h K = at-power binary64 true (suc n) k h K

abs-signed : (s : Bool) (a : ℕ) → nat_abs (signed s a) ≡ a
abs-signed false a = refl
abs-signed true zero = refl
abs-signed true (suc a) = refl

pub size_below : {b k : ℕ} {x : Float} {z : ℤ} → Dyadic b k x z → nat_abs z < 2 ^ b
size_below {b} D = subst (λ (n : ℕ). n < 2 ^ b) (sym (ap nat_abs D.whole ∙ abs-signed D.sign D.size)) D.small

-- and it is exact, where its digits are no more than the format keeps
pub exactly : (b k : ℕ) (z : ℤ) → b ≤ 53 → nat_abs z < 2 ^ b → k ≤ 1074 → Dyadic b k (nearest k z) z
unfolding nearest
exactly b k (pos n) B h K =
    made b k _ _ false n (at-power binary64 false n k (lt_of_lt_of_le h (pow_mono B)) K) h refl
exactly b k (negsuc n) B h K =
    made b k _ _ true (suc n) (at-power binary64 true (suc n) k (lt_of_lt_of_le h (pow_mono B)) K) h refl

-- ---- the whole number, by the float's own parts

-- a float that is a whole number of 2 ^ k-ths, times 2 ^ k, is that number
pub times2-is : (b k : ℕ) (x : Float) (z : ℤ) → Dyadic b k x z → times2 k x ≡ z
times2-is b k nan z D = absurd D.value
times2-is b k (inf s) z D = absurd D.value
times2-is b k (fin s m e) z D =
    let A = own b k s m e z D in
    ap (signed s) (ap (λ (n : ℕ). n / down e) A.value ∙ mul-div_cancel A.size (down_pos e)) ∙ sym A.whole

-- +0 is 0
pub none-exact : (b k : ℕ) → Dyadic b k (fin false 0 (pos 0)) (pos 0)
none-exact b k = made b k _ _ false 0 (refl, zero-mul (2 ^ k)) (pow_pos b) refl
