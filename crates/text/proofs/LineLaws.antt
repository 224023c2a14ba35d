-- Digits, and how many a number has. Assumes nothing.
use Prim.Native.Nat.{ℕ, zero, suc, ◌+◌, ◌*◌, ◌/◌, ◌%◌, ◌-◌, ◌^◌, ◌≤◌, ◌<◌}
use mathlib.Core.Path.{◌≡◌, refl, sym, ap, ◌∙◌}
use mathlib.Core.Bool.{Bool, true, false, cond}
use mathlib.Core.List.{List, [], ◌∷◌, ◌++◌, append_assoc, append-nil}
use native.Mathlib.Omega.{arith}
use native.Mathlib.Nat.{div-div-eq-div-mul, div-one, mul-suc, mul-zero, pow-suc, pow-zero}
use native.Mathlib.Numerals.{add-one}
use lib.Dec.{ltb}
use lib.ListN.{length, length-append, get_or, set, take}
use lib.Seq.{length-take-le, sets, take-suc}
use borrow.Author.Tests.{le-leb, le-ltb, lt-ltb, ltb-false, ne_eqb}
use Rattle.text.specs.Lines.{call_of, decimal, digits, fields_of, glyph, hex_fields, line_of, number_then}
use Rattle.text.specs.Lines.{place_field, place_if_put, places, places_in, with_row}
use Rattle.std.proofs.Common.{Some, map}
use Rattle.std.proofs.lemmas.List.{map-id}
use Rattle.ground.proofs.Stores.{set-sets, sets-append}

pub digits-length : (b k n : ℕ) → length (digits b k n) ≡ k
unfolding digits
digits-length b zero n = refl
digits-length b (suc k) n = ap suc (digits-length b k n)

-- a number and the character after it: how many bytes they have, and how they are stored
pub number-length : (end n : ℕ) → length (number_then end n) ≡ places n + 1
unfolding number_then
number-length end n = omega (arith, length-append (decimal n) (end ∷ []), digits-length 10 (places n) n)

-- an empty row changes nothing
pub none-put : (l : List ℕ) (to : ℕ) → (Some to ≡ place_if_put l to []) × (l ≡ with_row l to [])
none-put l to = rw (le-leb 0 (length l - to) (omega arith)) (ap Some (omega arith), refl)

-- n itself is enough to count its places by
places-enough : (f g n : ℕ) → n ≤ f → n ≤ g → places_in f n ≡ places_in g n
unfolding places_in
places-enough zero zero n p q = refl
places-enough zero (suc g) n p q = rw (lt-ltb n 10 (omega arith))
places-enough (suc f) zero n p q = rw (lt-ltb n 10 (omega arith))
places-enough (suc f) (suc g) n p q = go (ltb n 10) refl (λ h. places-enough f g (n / 10) (omega arith) (omega arith))
  where
    go : (b : Bool) → ltb n 10 ≡ b → (10 ≤ n → places_in f (n / 10) ≡ places_in g (n / 10))
        → cond b 1 (suc (places_in f (n / 10))) ≡ cond b 1 (suc (places_in g (n / 10)))
    go true e k = refl
    go false e k = ap suc (k (ltb-false n 10 e))

pub places-one : (n : ℕ) → n < 10 → places n ≡ 1
unfolding places_in
places-one n h = places-enough n (suc n) n (omega arith) (omega arith) ∙ rw (lt-ltb n 10 h)

pub places-more : (n : ℕ) → 10 ≤ n → places n ≡ suc (places (n / 10))
unfolding places_in
places-more n h =
    places-enough n (suc n) n (omega arith) (omega arith)
    ∙ rw (le-ltb n 10 h, places-enough n (n / 10) (n / 10) (omega arith) (omega arith))

-- a number below ten to the k has at most k places
pub few : (f k n : ℕ) → n < 10 ^ suc k → places_in f n ≤ suc k
unfolding places_in
few zero k n h = omega arith
few (suc f) k n h = go k (ltb n 10) refl h (λ j l. few f j (n / 10) l)
  where
    go : (k : ℕ) (b : Bool) → ltb n 10 ≡ b → n < 10 ^ suc k
        → ((j : ℕ) → n / 10 < 10 ^ suc j → places_in f (n / 10) ≤ suc j) → cond b 1 (suc (places_in f (n / 10))) ≤ suc k
    go k true e h g = omega arith
    go zero false e h g = absurd (omega (arith, ltb-false n 10 e))
    go (suc j) false e h g =
        let p = pow-suc 10 (suc j) in
        let q = g j (omega arith) in
        omega arith

pub places-few : (n : ℕ) → n < 2 ^ 64 → places n ≤ 20
places-few n h = few n 19 n (omega arith)

-- the loop that stores digits from the last: none yet
pub none-spelled : (l : List ℕ) (n b count to : ℕ)
    → (n ≡ n / b ^ (count - count)) × (l ≡ sets l to (digits b (count - count) n))
unfolding digits
none-spelled l n b count to =
    let z : count - count ≡ 0 = omega arith in
    rw (z, pow-zero b) (sym (div-one n), refl)

-- and one more digit
pub spelled : (l : List ℕ) (n b count to i : ℕ) → 0 < i → i ≤ count
    → set (sets l (to + i) (digits b (count - i) n)) (to + (i - 1)) (glyph (n / b ^ (count - i) % b))
    ≡ sets l (to + (i - 1)) (digits b (count - (i - 1)) n)
unfolding digits
spelled l n b count to i p q =
    let e : count - (i - 1) ≡ suc (count - i) = omega arith in
    let f : to + i ≡ suc (to + (i - 1)) = omega arith in
    rw (e, f) (set-sets l (suc (to + (i - 1))) (to + (i - 1)) _ (digits b (count - i) n) (omega arith))

pub rest-on : (n b count i : ℕ) → 0 < i → i ≤ count → n / b ^ (count - i) / b ≡ n / b ^ (count - (i - 1))
rest-on n b count i p q =
    let e : count - (i - 1) ≡ suc (count - i) = omega arith in
    rw (e, pow-suc b (count - i)) (div-div-eq-div-mul n (b ^ (count - i)) b)

pub fields-length : (k : ℕ) (ws : List ℕ) → length (fields_of k ws) ≡ suc k * length ws
unfolding fields_of
fields-length k [] = sym (mul-zero (suc k))
fields-length k (w ∷ ws) =
    omega (
      arith,
      length-append (32 ∷ digits 16 k w) (fields_of k ws),
      digits-length 16 k w,
      fields-length k ws,
      mul-suc (suc k) (length ws),
    )

fields-append : (k : ℕ) (xs ys : List ℕ) → fields_of k (xs ++ ys) ≡ fields_of k xs ++ fields_of k ys
unfolding fields_of
fields-append k [] ys = refl
fields-append k (x ∷ xs) ys =
    rw (fields-append k xs ys) (sym (append_assoc (32 ∷ digits 16 k x) (fields_of k xs) (fields_of k ys)))

-- the loop that stores the fields: one more of them
pub fields-more : (k : ℕ) (l ws : List ℕ) (to i : ℕ) → i < length ws
    → sets (set (sets l to (fields_of k (take i ws))) (to + suc k * i) 32) (to + suc k * i + 1)
    (digits 16 k (get_or ws i 0))
    ≡ sets l to (fields_of k (take (i + 1) ws))
unfolding fields_of
fields-more k l ws to i h =
    let f = fields_of k (take i ws) in
    let w : List ℕ = 32 ∷ digits 16 k (get_or ws i 0) in
    let n : to + length f ≡ to + suc k * i =
    ap (λ (m : ℕ). to + m)
    (fields-length k (take i ws) ∙ ap (λ (m : ℕ). suc k * m) (length-take-le i ws (omega arith))) in
    let more = fields-append k (take i ws) (get_or ws i 0 ∷ []) in
    rw (add-one i, add-one (to + suc k * i), take-suc ws i 0 h, more, append-nil w)
    (rw (sets-append l to f w, n))

-- the same where the code counts
pub field_more : (k : ℕ) (l ws : List ℕ) (to i at w : ℕ) → i < length ws → at ≡ to + (k + 1) * i → w ≡ get_or ws i 0
    → sets (set (sets l to (fields_of k (take i ws))) at 32) (at + 1) (digits 16 k w)
    ≡ sets l to (fields_of k (take (i + 1) ws))
field_more k l ws to i at w h e f = rw (e, f, add-one k) (fields-more k l ws to i h)

pub room_more : (k i n : ℕ) → i < n → (k + 1) * i + (k + 1) ≤ (k + 1) * n
room_more k i n h = grind arith

-- the numbers of a call behind what stands there
pub call_with_place : (l : List ℕ) (answer read place : ℕ) → (place ≡ 0 → ⊥)
    → l ++ number_then 32 answer ++ decimal read ++ (32 ∷ []) ++ decimal place ≡ l ++ call_of answer read place
unfolding number_then place_field
call_with_place l answer read place n = rw (ne_eqb place 0 n) (simp append_assoc)

pub call_without : (l : List ℕ) (answer read place : ℕ) → place ≡ 0
    → l ++ number_then 32 answer ++ decimal read ≡ l ++ call_of answer read place
unfolding number_then place_field
call_without l answer read place e = rw e (simp (append_assoc, append-nil))

-- the whole line
pub call_line : (head : List ℕ) (answer read place : ℕ) (ws : List ℕ) → head ≡ call_of answer read place
    → head ++ fields_of 8 (map (λ n. n) ws) ++ (10 ∷ []) ≡ line_of answer read place ws
unfolding line_of
call_line head answer read place ws e = rw (e, map-id ws)

pub line-length : (answer read place : ℕ) (ws : List ℕ)
    → length (line_of answer read place ws)
    ≡ places answer + places read + length (place_field place) + 2 + 9 * length ws
unfolding line_of
line-length answer read place ws =
    let k = place_field place in
    let p = length-append (decimal answer ++ (32 ∷ decimal read) ++ k ++ hex_fields ws) (10 ∷ []) in
    let q = length-append (decimal answer ++ (32 ∷ decimal read) ++ k) (hex_fields ws) in
    let o = length-append (decimal answer ++ (32 ∷ decimal read)) k in
    let r = length-append (decimal answer) (32 ∷ decimal read) in
    omega (arith, fields-length 8 ws, digits-length 10 (places answer) answer, digits-length 10 (places read) read)
