-- Laws of the check: when a field and those behind it are good; the fields of an exclusive by its count; and where the
-- first bad field of a list stands. Assumes nothing.
use Prim.Native.Nat.{ℕ, zero, suc, ◌+◌, ◌<◌}
use mathlib.Core.Path.{◌≡◌, refl, ap, ◌∙◌}
use mathlib.Core.Bool.{Bool, true, false, cond, ◌&&◌, ◌||◌}
use mathlib.Core.List.{List, [], ◌∷◌, map}
use native.Mathlib.Omega.{arith}
use lib.ListN.{drop, get_or, length, take}
use lib.Seq.{drop-cons}
use Rattle.std.proofs.Common.{add-one, ◌≤◌}
use Rattle.std.proofs.Math.ListN.{drop_of_length-le}
use lib.Dec.{eqb, leb, ltb}
use borrow.Author.Tests.{lt-leb, ne_eqb}
use Rattle.ground.proofs.Bools.{and-true}
use Rattle.ground.proofs.Cases.{by_bool}
use Rattle.std.specs.Prelude.{Some}
use Rattle.fields.specs.Check.{Field, FirstBad, bad_place, behind, good, good_fields, place_found, seven}

-- the place of the first that is bad in a row of fields, by their tests; there is none exactly where all are good
place_in : List Bool → ℕ
place_in [] = 0
place_in (b ∷ bs) = cond b (behind (place_in bs)) 1

all_in : List Bool → Bool
all_in [] = true
all_in (b ∷ bs) = b && all_in bs

all_in_lem : (bs : List Bool) → eqb (place_in bs) 0 ≡ all_in bs
unfolding place_in all_in
all_in_lem [] = refl
all_in_lem (false ∷ bs) = refl
all_in_lem (true ∷ bs) = after (place_in bs) ∙ all_in_lem bs
  where
    after : (n : ℕ) → eqb (behind n) 0 ≡ eqb n 0
    after n = by_bool (eqb n 0) (λ e. rw e) (λ e. rw e (ne_eqb (n + 1) 0 (λ q. omega (arith, q))))

pub one-good : (a : Bool) → eqb (cond a (behind 0) 1) 0 ≡ a
unfolding place_in all_in
one-good a = all_in_lem (a ∷ []) ∙ and-true a

pub both-good : (a b : Bool) → eqb (cond a (behind (cond b (behind 0) 1)) 1) 0 ≡ (a && b)
unfolding place_in all_in
both-good a b = all_in_lem (a ∷ b ∷ []) ∙ ap (λ (z : Bool). a && z) (and-true b)

-- the fields of an exclusive: the count first, and a byte behind it is not asked
pub counted : (n a b c d e f : ℕ)
    → bad_place (record { value = n; most = 6 } ∷ map seven (take n (a ∷ b ∷ c ∷ d ∷ e ∷ f ∷ [])))
    ≡ cond (leb n 6) (behind (cond (ltb n 1 || leb a 127) (behind (cond (ltb n 2 || leb b 127)
    (behind (cond (ltb n 3 || leb c 127) (behind (cond (ltb n 4 || leb d 127) (behind (cond (ltb n 5 || leb e 127)
    (behind (cond (ltb n 6 || leb f 127) (behind 0) 1)) 1)) 1)) 1)) 1)) 1)) 1
unfolding bad_place
counted zero a b c d e f = refl
counted (suc zero) a b c d e f = refl
counted (suc (suc zero)) a b c d e f = refl
counted (suc (suc (suc zero))) a b c d e f = refl
counted (suc (suc (suc (suc zero)))) a b c d e f = refl
counted (suc (suc (suc (suc (suc zero))))) a b c d e f = refl
counted (suc (suc (suc (suc (suc (suc zero)))))) a b c d e f = refl
counted (suc (suc (suc (suc (suc (suc (suc n))))))) a b c d e f =
    rw (lt-leb (suc (suc (suc (suc (suc (suc (suc n))))))) 6 (omega arith))

pub counted-good : (n a b c d e f : ℕ)
    → good_fields (record { value = n; most = 6 } ∷ map seven (take n (a ∷ b ∷ c ∷ d ∷ e ∷ f ∷ [])))
    ≡ (leb n 6 && ((ltb n 1 || leb a 127) && ((ltb n 2 || leb b 127) && ((ltb n 3 || leb c 127)
    && ((ltb n 4 || leb d 127) && ((ltb n 5 || leb e 127) && (ltb n 6 || leb f 127)))))))
unfolding place_in all_in
counted-good n a b c d e f =
    ap (λ (k : ℕ). eqb k 0) (counted n a b c d e f)
    ∙ all_in_lem (leb n 6 ∷ (ltb n 1 || leb a 127) ∷ (ltb n 2 || leb b 127) ∷ (ltb n 3 || leb c 127)
    ∷ (ltb n 4 || leb d 127) ∷ (ltb n 5 || leb e 127) ∷ (ltb n 6 || leb f 127) ∷ [])
    ∙ simp and-true

-- a place is that of the first bad field
pub is-first : (fs : List Field) (k : ℕ) → bad_place fs ≡ suc k → FirstBad fs k
unfolding bad_place
is-first [] k e = absurd (omega (arith, e))
is-first (f ∷ fs) k e = by_bool (good f) (λ g. later g k (bad_place fs) (λ j. is-first fs j) refl (rw g at e))
    (λ g. here g (rw g at e))
  where
    here : good f ≡ false → 1 ≡ suc k → FirstBad (f ∷ fs) k
    here g h = let z : k ≡ 0 = omega (arith, h) in rw z (g, λ i j. absurd (omega (arith, j)))

    before : (j : ℕ) → good f ≡ true → FirstBad fs j → (i : ℕ) → i < suc j → good (get_or (f ∷ fs) i (seven 0)) ≡ true
    before j g h zero l = g
    before j g h (suc i) l = h.1 i (omega (arith, l))

    later : good f ≡ true → (k m : ℕ) → ((j : ℕ) → bad_place fs ≡ suc j → FirstBad fs j) → bad_place fs ≡ m
        → behind m ≡ suc k → FirstBad (f ∷ fs) k
    later g k zero ih p h = absurd (omega (arith, h))
    later g k (suc j) ih p h =
        let z : k ≡ suc j = omega (arith, rw (ne_eqb (suc j) 0 (λ q. omega (arith, q))) at h) in
        let r = ih j p in
        rw z (r.0, before j g r)

-- and without one every field is good
pub all-good : (fs : List Field) → bad_place fs ≡ 0 → (i : ℕ) → good (get_or fs i (seven 0)) ≡ true
unfolding bad_place
all-good [] e i = refl
all-good (f ∷ fs) e i = by_bool (good f) (λ g. go g i (λ p j. all-good fs p j) (rest (bad_place fs) refl (rw g at e)))
    (λ g. absurd (omega (arith, rw g at e)))
  where
    rest : (m : ℕ) → bad_place fs ≡ m → behind m ≡ 0 → bad_place fs ≡ 0
    rest zero p h = p
    rest (suc j) p h = absurd (omega (arith, rw (ne_eqb (suc j) 0 (λ q. omega (arith, q))) at h))

    go : good f ≡ true → (i : ℕ) → (bad_place fs ≡ 0 → (j : ℕ) → good (get_or fs j (seven 0)) ≡ true) → bad_place fs ≡ 0
        → good (get_or (f ∷ fs) i (seven 0)) ≡ true
    go g zero ih p = g
    go g (suc i) ih p = ih p i

-- the place of the first bad byte in a row, where those below i are good
abbrev pub passed : ℕ → ℕ → ℕ
passed i n = cond (eqb n 0) 0 (i + n)

pub passed-good : (i n : ℕ) → passed i (behind n) ≡ passed (i + 1) n
passed-good i n = by_bool (eqb n 0) (λ e. rw e) (λ e. rw (e, ne_eqb (n + 1) 0 (λ q. omega (arith, q))) (omega arith))

-- the bytes from i on: the first of them is good or bad, or there are none
module _ (bs : List ℕ) (i : ℕ) where
  pub from-good : i < length bs → leb (get_or bs i 0) 127 ≡ true
      → bad_place (map seven (drop i bs)) ≡ behind (bad_place (map seven (drop (i + 1) bs)))
  unfolding bad_place
  from-good h g = rw (add-one, drop-cons bs i 0 h, g)

  pub from-bad : i < length bs → leb (get_or bs i 0) 127 ≡ false → bad_place (map seven (drop i bs)) ≡ 1
  unfolding bad_place
  from-bad h g = rw (drop-cons bs i 0 h, g)

  pub from-none : length bs ≤ i → bad_place (map seven (drop i bs)) ≡ 0
  unfolding bad_place
  from-none h = rw (drop_of_length-le bs h)

-- a place behind others is one
pub found-behind : (i : ℕ) → place_found (i + 1) ≡ Some (i + 1)
found-behind i = rw (ne_eqb (i + 1) 0 (λ q. omega (arith, q)))
