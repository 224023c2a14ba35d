-- Packets: sizes are 1 to 4; the packet that stands first, at a place of the words; and that cutting undoes joining.
-- Assumes nothing.
use Prim.Native.Nat.{ℕ, zero, suc, pred, ◌+◌, ◌-◌, ◌*◌, ◌/◌, ◌%◌, ◌^◌, ◌≤◌, ◌<◌}
use mathlib.Core.Path.{◌≡◌, refl, ap, ◌∙◌}
use mathlib.Core.Bool.{Bool, true, false, cond}
use mathlib.Core.List.{List, [], ◌∷◌, ◌++◌}
use native.Mathlib.Omega.{arith}
use mathlib.Core.Logic.{◌⊎◌, inl, inr}
use lib.Dec.{leb}
use lib.ListN.{length, get_or, take, drop, drop_of_length-le, length-drop, length-take}
use native.Mathlib.Numerals.{add-one}
use lib.Seq.{take_at, drop_at, drop-cons, drop-drop, length-take-le, take_all, take-take}
use borrow.Author.Tests.{le-leb, lt-leb, leb-true, leb-false}
use Rattle.ump.specs.Word.{message_type}
use Rattle.ump.specs.Packet.{Whole, cut, cut_after, first, packet, size, sizes}

abbrev AllIn : List ℕ → Type 0
AllIn [] = Unit {0}
AllIn (x ∷ xs) = ((1 ≤ x) × (x ≤ 4)) × AllIn xs

-- a size is 1 to 4
pub size-range : (w : ℕ) → (1 ≤ size w) × (size w ≤ 4)
unfolding size
size-range w = go sizes (message_type w) (omega arith) (omega arith)
  where
    go : (xs : List ℕ) (k : ℕ) → AllIn xs → k < length xs → (1 ≤ get_or xs k 0) × (get_or xs k 0 ≤ 4)
    go [] k t h = absurd (omega arith)
    go (x ∷ xs) zero t h = t.0
    go (x ∷ xs) (suc k) t h = go xs k t.1 (omega arith)

pub packet-end : (s : List ℕ) (at : ℕ) → length s ≤ at → packet (drop at s) ≡ []
unfolding packet
packet-end s at h = rw (drop_of_length-le s h)

pub packet-short : (s : List ℕ) (at : ℕ) → at < length s → length s - at < size (get_or s at 0) → packet (drop at s) ≡ []
unfolding packet
packet-short s at h k =
    let e : suc (length (drop (suc at) s)) < size (get_or s at 0) = omega (arith, length-drop (suc at) s) in
    rw (drop-cons s at 0 h, lt-leb (size (get_or s at 0)) (suc (length (drop (suc at) s))) e)

pub packet-whole-at : (s : List ℕ) (at : ℕ) → at < length s → size (get_or s at 0) ≤ length s - at
    → packet (drop at s) ≡ take (size (get_or s at 0)) (drop at s)
unfolding packet
packet-whole-at s at h k =
    let e : size (get_or s at 0) ≤ suc (length (drop (suc at) s)) = omega (arith, length-drop (suc at) s) in
    rw (drop-cons s at 0 h, le-leb (size (get_or s at 0)) (suc (length (drop (suc at) s))) e)

-- the size by the type
pub size-by : (w t : ℕ) → message_type w ≡ t → size w ≡ get_or sizes t 0
unfolding size
size-by w t e = rw e

-- the packet at a place of the words, by the size of the word there
module _ (ws : List ℕ) (at : ℕ) (here : at < length ws) where
  abbrev word : ℕ
  word = get_or ws at 0

  pub one_word : size word ≡ 1 → packet (drop at ws) ≡ word ∷ []
  one_word e = packet-whole-at ws at here (omega (arith, e)) ∙ rw (e, drop-cons ws at 0 here)

  pub two-words : size word ≡ 2 → 2 ≤ length ws - at → packet (drop at ws) ≡ word ∷ get_or ws (at + 1) 0 ∷ []
  two-words e h =
      packet-whole-at ws at here (omega (arith, e))
      ∙ rw (e, drop-cons ws at 0 here, drop-cons ws (suc at) 0 (omega arith), ← add-one at)

  pub whole_words : size word ≤ length ws - at
      → (first (packet (drop at ws)) ≡ word) × (length (packet (drop at ws)) ≡ size word)
  whole_words h = go (size word) refl (size-range word)
    where
      go : (n : ℕ) → size word ≡ n → (1 ≤ size word) × (size word ≤ 4)
          → (first (packet (drop at ws)) ≡ word) × (length (packet (drop at ws)) ≡ size word)
      go zero e r = absurd (omega (arith, e, r.0))
      go (suc n) e r = (
        rw (packet-whole-at ws at here h, e, drop-cons ws at 0 here),
        rw (packet-whole-at ws at here h)
            (length-take-le (size word) (drop at ws) (omega (arith, length-drop at ws, h))),
      )

-- a packet is no longer than the words it stands in
pub packet-length : (s : List ℕ) → length (packet s) ≤ length s
unfolding packet
packet-length [] = omega arith
packet-length (w ∷ s) = go (leb (size w) (length (w ∷ s)))
  where
    go : (b : Bool) → length (cond b (take (size w) (w ∷ s)) []) ≤ length (w ∷ s)
    go true = omega (arith, length-take (size w) (w ∷ s))
    go false = omega arith

-- a list of no elements
pub at_none : (p : List ℕ) → length p ≡ 0 → p ≡ []
at_none [] h = refl
at_none (w ∷ s) h = absurd (omega arith)

-- a whole packet is the packet that stands first in it
pub packet-whole : (p : List ℕ) → Whole p → packet p ≡ p
unfolding packet Whole
packet-whole [] h = refl
packet-whole (w ∷ s) h = rw (le-leb (size w) (length (w ∷ s)) (omega arith)) (take_all (size w) (w ∷ s) (omega arith))

-- what stands after a packet's words does not matter to it
pub packet-near : (w : ℕ) (s : List ℕ) → packet (take (size w) (w ∷ s)) ≡ packet (w ∷ s)
unfolding packet
packet-near w s = go (size w) refl (size-range w) (leb (size w) (length (w ∷ s))) refl
  where
    go : (n : ℕ) → size w ≡ n → (1 ≤ size w) × (size w ≤ 4) → (b : Bool) → leb (size w) (length (w ∷ s)) ≡ b → packet (take n (w ∷ s)) ≡ packet (w ∷ s)
    go zero e r b t = absurd (omega arith)
    go (suc n) e r true t =
        let l = leb-true (size w) (length (w ∷ s)) t in
        let k : size w ≤ suc (length (take n s)) = omega (arith, length-take n s) in
        rw (t, le-leb (size w) (suc (length (take n s))) k, e) (ap (λ (l : List ℕ). w ∷ l) (take-take n n s (omega arith)))
    go (suc n) e r false t =
        let l = leb-false (size w) (length (w ∷ s)) t in
        let k : suc (length (take n s)) < size w = omega (arith, length-take n s) in
        rw (t, lt-leb (size w) (suc (length (take n s))) k)

-- the packet that stands first has its size, or there is none
pub packet-size : (w : ℕ) (s : List ℕ) → (packet (w ∷ s) ≡ []) ⊎ ((packet (w ∷ s) ≡ take (size w) (w ∷ s)) × (size w ≤ length (w ∷ s)))
unfolding packet
packet-size w s = go (leb (size w) (length (w ∷ s))) refl
  where
    go : (b : Bool) → leb (size w) (length (w ∷ s)) ≡ b
        → (cond b (take (size w) (w ∷ s)) [] ≡ []) ⊎ ((cond b (take (size w) (w ∷ s)) [] ≡ take (size w) (w ∷ s)) × (size w ≤ length (w ∷ s)))
    go true t = inr (refl, leb-true (size w) (length (w ∷ s)) t)
    go false t = inl refl

pub cut_after-drop : (k : ℕ) (s : List ℕ) → cut_after k s ≡ cut (drop k s)
unfolding cut_after cut
cut_after-drop zero s = refl
cut_after-drop (suc k) [] = refl
cut_after-drop (suc k) (w ∷ s) = cut_after-drop k s

pub cut-cons : (w : ℕ) (s : List ℕ) → cut (w ∷ s) ≡ take (size w) (w ∷ s) ∷ cut (drop (size w) (w ∷ s))
unfolding cut_after cut
cut-cons w s = go (size w) (size-range w)
  where
    go : (n : ℕ) → (1 ≤ n) × (n ≤ 4) → take n (w ∷ s) ∷ cut_after (pred n) s ≡ take n (w ∷ s) ∷ cut (drop n (w ∷ s))
    go zero h = absurd (omega arith)
    go (suc n) h = rw cut_after-drop

-- a whole packet in front is cut off as it stands
pub cut-whole : (p s : List ℕ) → Whole p → cut (p ++ s) ≡ p ∷ cut s
unfolding Whole
cut-whole [] s h = absurd h
cut-whole (w ∷ r) s h = cut-cons w (r ++ s) ∙ rw (take_at (w ∷ r) s (size w) h, drop_at (w ∷ r) s (size w) h)

-- the same at a place of the stream: what stands from i on is a packet, and the packets after it
pub cut_at : (a : List ℕ) (i : ℕ) → i < length a
    → cut (drop i a) ≡ take (size (get_or a i 0)) (drop i a) ∷ cut (drop (i + size (get_or a i 0)) a)
cut_at a i h = rw (drop-cons a i 0 h, cut-cons (get_or a i 0) (drop (suc i) a), ← drop-cons a i 0 h, drop-drop (size (get_or a i 0)) i a)

pub cut-end : (a : List ℕ) (i : ℕ) → length a ≤ i → cut (drop i a) ≡ []
unfolding cut cut_after
cut-end a i h = rw (drop_of_length-le a h)

-- a packet has at most four words
pub packet-four : (s : List ℕ) → length (packet s) ≤ 4
unfolding packet
packet-four [] = omega arith
packet-four (w ∷ s) = go (leb (size w) (length (w ∷ s)))
  where
    go : (b : Bool) → length (cond b (take (size w) (w ∷ s)) []) ≤ 4
    go true = omega (arith, length-take (size w) (w ∷ s), size-range w)
    go false = omega arith

-- the sizes in one number, two bits for each
pub size-bits : (t : ℕ) → t < 16 → 0xFE950D40 / 2 ^ (t * 2) % 4 + 1 ≡ get_or sizes t 0
size-bits zero h = refl
size-bits (suc zero) h = refl
size-bits (suc (suc zero)) h = refl
size-bits (suc (suc (suc zero))) h = refl
size-bits (suc (suc (suc (suc zero)))) h = refl
size-bits (suc (suc (suc (suc (suc zero))))) h = refl
size-bits (suc (suc (suc (suc (suc (suc zero)))))) h = refl
size-bits (suc (suc (suc (suc (suc (suc (suc zero))))))) h = refl
size-bits (suc (suc (suc (suc (suc (suc (suc (suc zero)))))))) h = refl
size-bits (suc (suc (suc (suc (suc (suc (suc (suc (suc zero))))))))) h = refl
size-bits (suc (suc (suc (suc (suc (suc (suc (suc (suc (suc zero)))))))))) h = refl
size-bits (suc (suc (suc (suc (suc (suc (suc (suc (suc (suc (suc zero))))))))))) h = refl
size-bits (suc (suc (suc (suc (suc (suc (suc (suc (suc (suc (suc (suc zero)))))))))))) h = refl
size-bits (suc (suc (suc (suc (suc (suc (suc (suc (suc (suc (suc (suc (suc zero))))))))))))) h = refl
size-bits (suc (suc (suc (suc (suc (suc (suc (suc (suc (suc (suc (suc (suc (suc zero)))))))))))))) h = refl
size-bits (suc (suc (suc (suc (suc (suc (suc (suc (suc (suc (suc (suc (suc (suc (suc zero))))))))))))))) h = refl
size-bits (suc (suc (suc (suc (suc (suc (suc (suc (suc (suc (suc (suc (suc (suc (suc (suc t)))))))))))))))) h = absurd (omega arith)
