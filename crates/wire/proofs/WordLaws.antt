-- Words as bytes: how many there are, and which stands at a place. Assumes nothing.
use Prim.Native.Nat.{ℕ, zero, suc, ◌+◌, ◌*◌, ◌/◌, ◌-◌, ◌≤◌, ◌<◌, min}
use mathlib.Core.Path.{◌≡◌, refl, sym, ap, ◌∙◌}
use mathlib.Core.List.{List, [], ◌∷◌, ◌++◌, append_assoc}
use native.Mathlib.Omega.{arith}
use native.Mathlib.Numerals.{add-one}
use lib.ListN.{length, get_or, take, drop, set, length-drop, length-take}
use lib.Seq.{length-take-le, sets, slice, take-suc}
use Rattle.wire.specs.Words.{bytes_of, four_bytes, word_from, words_of}
use borrow.Rule.Slice.PartMut.{put_mid}
use Rattle.std.specs.List.{copy_within}
use Rattle.std.proofs.lemmas.List.{drop-take}
use Rattle.std.proofs.lemmas.List.Edits.{paste_all, sets-eq}
use Rattle.std.proofs.lemmas.Slice.{put_mid-paste}
use Rattle.ground.proofs.Stores.{sets-append, sets_more, take-least}

pub words-length : (s : List ℕ) → length (words_of s) ≡ length s / 4
unfolding words_of
words-length [] = refl
words-length (a ∷ []) = refl
words-length (a ∷ b ∷ []) = refl
words-length (a ∷ b ∷ c ∷ []) = refl
words-length (a ∷ b ∷ c ∷ d ∷ s) = ap suc (words-length s) ∙ omega arith

four-on : (a b c d : ℕ) (s : List ℕ) (k m : ℕ) → k ≡ suc (suc (suc (suc m)))
    → get_or (a ∷ b ∷ c ∷ d ∷ s) k 0 ≡ get_or s m 0
four-on a b c d s k m e = ap (λ (j : ℕ). get_or (a ∷ b ∷ c ∷ d ∷ s) j 0) e

-- the word at a place, by its four bytes
words-at : (s : List ℕ) (i : ℕ) → i < length s / 4 → get_or (words_of s) i 0 ≡ word_from s (4 * i)
unfolding words_of
words-at [] i h = absurd (omega arith)
words-at (a ∷ []) i h = absurd (omega arith)
words-at (a ∷ b ∷ []) i h = absurd (omega arith)
words-at (a ∷ b ∷ c ∷ []) i h = absurd (omega arith)
words-at (a ∷ b ∷ c ∷ d ∷ s) zero h = refl
words-at (a ∷ b ∷ c ∷ d ∷ s) (suc i) h =
    let p = four-on a b c d s (4 * suc i) (4 * i) (omega arith) in
    let q = four-on a b c d s (4 * suc i + 1) (4 * i + 1) (omega arith) in
    let r = four-on a b c d s (4 * suc i + 2) (4 * i + 2) (omega arith) in
    let t = four-on a b c d s (4 * suc i + 3) (4 * i + 3) (omega arith) in
    rw (p, q, r, t) (words-at s i (omega arith))

-- the loop that stores the words of the bytes: one more word
pub words_more : (l s : List ℕ) (i : ℕ) → i < length s / 4
    → set (sets l 0 (take i (words_of s))) i (word_from s (4 * i)) ≡ sets l 0 (take (i + 1) (words_of s))
words_more l s i h = rw (← words-at s i h) (sets_more l (words_of s) i 0 (omega (arith, words-length s)))

pub bytes-length : (ws : List ℕ) → length (bytes_of ws) ≡ 4 * length ws
unfolding bytes_of
bytes-length [] = refl
bytes-length (w ∷ ws) = omega (arith, bytes-length ws)

bytes-append : (xs ys : List ℕ) → bytes_of (xs ++ ys) ≡ bytes_of xs ++ bytes_of ys
unfolding bytes_of
bytes-append [] ys = refl
bytes-append (x ∷ xs) ys = ap (λ (l : List ℕ). four_bytes x ++ l) (bytes-append xs ys)

-- the loop that stores the bytes of the words: one more word
pub bytes-more : (l ws : List ℕ) (i : ℕ) → i < length ws
    → sets (sets l 0 (bytes_of (take i ws))) (4 * i) (four_bytes (get_or ws i 0))
    ≡ sets l 0 (bytes_of (take (i + 1) ws))
unfolding bytes_of
bytes-more l ws i h =
    let b = bytes_of (take i ws) in
    let w = get_or ws i 0 in
    let n : 0 + length b ≡ 4 * i = omega (arith, bytes-length (take i ws), length-take-le i ws (omega arith)) in
    rw (add-one i, take-suc ws i 0 h, bytes-append (take i ws) (w ∷ []), sets-append l 0 b (four_bytes w), n)

-- a part that is stored over by a row of its length
pub part_stored : (at n : ℕ) (l xs : List ℕ) → n ≡ length xs → at + n ≤ length l → put_mid at n l xs ≡ sets l at xs
part_stored at n l xs e h =
    put_mid-paste at n l xs xs n refl refl e ∙ paste_all l at xs n e
    ∙ rw (e, sets-eq xs l at (omega arith), append_assoc (take at l) xs (drop (at + length xs) l))

-- bytes moved to the front
pub moved : (l : List ℕ) (from end last : ℕ) → last ≡ min end (length l) → from ≤ last
    → copy_within l from last 0 ≡ sets l 0 (slice from end l)
moved l from end last e h =
    let n = last - from in
    let s = slice from end l in
    let t : take n (drop from l) ≡ s =
    sym (drop-take from n l) ∙ ap (λ (k : ℕ). drop from (take k l)) {x = from + n} {y = last} (omega arith)
    ∙ ap (λ (k : List ℕ). drop from k) (take-least end last l e) in
    let m : length s ≡ n = length-drop from (take end l) ∙ omega (arith, length-take end l) in
    rw (t, ← m) (sym (sets-eq s l 0 (omega arith)))
