-- A whole packet at a place of the words: its words are those from there on, and of a piece also its chain, its head
-- and its bytes. Assumes nothing.
use Prim.Native.Nat.{ℕ, ◌+◌, ◌-◌, ◌<◌, ◌≤◌}
use mathlib.Core.Path.{◌≡◌, refl, sym, ap, ◌∙◌}
use mathlib.Core.Bool.{Bool, true, false, cond, not, ◌&&◌}
use mathlib.Core.List.{List}
use mathlib.Core.Logic.{◌⊎◌, inl, inr}
use native.Mathlib.Omega.{arith}
use lib.Dec.{eqb, leb, ltb}
use lib.ListN.{get_or-eq_default, drop_of_length-le, drop, get_or, length, take, length-drop}
use lib.Seq.{get_or-drop, get_or-take, length-take-le, take_all}
use Rattle.std.proofs.Common.{min}
use borrow.Author.Tests.{eq-eqb, eqb-false, eqb-true, leb-false, leb-true, ltb-false, ltb-true, ne_eqb}
use Rattle.ground.proofs.Cases.{by_bool, not-both}
use Rattle.ump.specs.Word.{message_type, voice1, voice2}
use Rattle.fields.specs.Check.{checked_fields, good_fields, good_status, good_unchanged, voice1_fields, voice1_status}
use Rattle.ump.specs.Packet.{first, packet, second, size}
use Rattle.ump.proofs.PacketLaws.{at_none, packet-end, packet-short, packet-whole-at, size-range}
use Rattle.screen.specs.Screen.{goes_on, neither_type, screen, screen_by}
use Rattle.piece.specs.Piece.{exclusive, exclusive_bytes, exclusive_piece, flex, flex_bytes, flex_piece, piece_for}
use Rattle.piece.specs.Piece.{slot_by}
use Rattle.piece.specs.Piece.{strange_address}
use Rattle.piece.proofs.PieceLaws.{slot-chain}
use Rattle.chains.specs.Collect.{chain_of, piece_of, refusal_of, sort_by, sorted}
use Rattle.std.specs.Prelude.{None, Some}
use Rattle.chains.specs.Turn.{Standing, piece_at, whole_by}
use Rattle.chains.proofs.AskLaws.{asked-exclusive, asked-flex, asked-none, good-other, good-voice1, good-voice2}
use Rattle.chains.proofs.WithinLaws.{piece-low}

pub record WholeAt (ws : List ℕ) (at : ℕ) : Type 0 where
  pub inside : at < length ws
  pub fits : at + size (get_or ws at 0) ≤ length ws
  pub is : packet (drop at ws) ≡ take (size (get_or ws at 0)) (drop at ws)

module _ (ws : List ℕ) (at : ℕ) where
  pub whole-at : (length (packet (drop at ws)) ≡ 0 → ⊥) → WholeAt ws at
  whole-at some = by_bool (leb (length ws) at)
      (λ e. absurd (some (ap length (packet-end ws at (leb-true (length ws) at e)))))
      (λ e. let i = leb-false (length ws) at e in
      by_bool (ltb (length ws - at) (size (get_or ws at 0)))
      (λ f. absurd (some (ap length (packet-short ws at i (ltb-true (length ws - at) (size (get_or ws at 0)) f)))))
      (λ f. let g = ltb-false (length ws - at) (size (get_or ws at 0)) f in
      record { inside = i; fits = omega (arith, i, g); is = packet-whole-at ws at i g }))

  module _ (w : WholeAt ws at) where
    pub words-of : length (packet (drop at ws)) ≡ size (get_or ws at 0)
    words-of = ap length w.is
        ∙ length-take-le (size (get_or ws at 0)) (drop at ws) (omega (arith, length-drop at ws, w.fits))

    pub word_of : (k : ℕ) → k < size (get_or ws at 0) → get_or (packet (drop at ws)) k 0 ≡ get_or ws (at + k) 0
    word_of k h = rw (w.is, get_or-take, get_or-drop)

    pub first_of : first (packet (drop at ws)) ≡ get_or ws at 0
    first_of = word_of 0 (omega (arith, (size-range (get_or ws at 0)).0))
        ∙ ap (λ (i : ℕ). get_or ws i 0) {x = at + 0} {y = at} (omega arith)

-- the words from a place on, none where it is past their end
pub rest_from : (ws : List ℕ) (at m : ℕ) → m ≡ min at (length ws) → take (length ws - m) (drop m ws) ≡ drop at ws
rest_from ws at m e =
    take_all (length ws - m) (drop m ws) (omega (arith, length-drop m ws))
    ∙ by_bool (leb (length ws) at)
    (λ h. let k = leb-true (length ws) at h in
    drop_of_length-le ws {i = m} (omega arith) ∙ sym (drop_of_length-le ws {i = at} k))
    (λ h. let k = leb-false (length ws) at h in let i : m ≡ at = omega arith in ap (λ (n : ℕ). drop n ws) i)

-- how many words there are, where the packet is whole
pub cut_none : (m : ℕ) → whole_by m ≡ None → m ≡ 0
cut_none m = go (eqb m 0) refl
  where
    go : (t : Bool) → eqb m 0 ≡ t → cond t None (Some m) ≡ None → m ≡ 0
    go true e f = eqb-true m 0 e
    go false e f = absurd (cc)

pub whole-some : (m n : ℕ) → whole_by m ≡ Some n → (n ≡ m) × (n ≡ 0 → ⊥)
whole-some m n = go (eqb m 0) refl
  where
    go : (t : Bool) → eqb m 0 ≡ t → cond t None (Some m) ≡ Some n → (n ≡ m) × (n ≡ 0 → ⊥)
    go true e f = absurd (cc)
    go false e f = let k : n ≡ m = cc in (k, λ z. eqb-false m 0 e (sym k ∙ z))

-- the sizes of the types that are asked
pub size-two : (w : ℕ) → (message_type w ≡ exclusive) ⊎ (message_type w ≡ voice2) → size w ≡ 2
unfolding size
size-two w (inl e) = rw e
size-two w (inr e) = rw e

pub size-four : (w : ℕ) → message_type w ≡ flex → size w ≡ 4
unfolding size
size-four w e = rw e

-- what is asked of a whole packet, by the words at its place
module _ (ws : List ℕ) (at : ℕ) (some : length (packet (drop at ws)) ≡ 0 → ⊥) where
  abbrev p : List ℕ
  p = packet (drop at ws)

  abbrev v : ℕ
  v = get_or ws at 0

  there : WholeAt ws at
  there = whole-at ws at some

  typed : (t : ℕ) → message_type v ≡ t → message_type (first p) ≡ t
  typed t e = ap message_type (first_of ws at there) ∙ e

  untyped : (t : ℕ) → (message_type v ≡ t → ⊥) → message_type (first p) ≡ t → ⊥
  untyped t n e = n (ap message_type (sym (first_of ws at there)) ∙ e)

  second_at : 2 ≤ size v → second p ≡ get_or ws (at + 1) 0
  second_at h = word_of ws at there 1 (omega arith)

  pub exclusive-at : message_type v ≡ exclusive → good_unchanged v (get_or ws (at + 1) 0)
      ≡ eqb (refusal_of (drop at ws)) goes_on
  exclusive-at e =
      rw (← first_of ws at there, ← second_at (omega (arith, size-two v (inl e)))) (asked-exclusive p some (typed
      exclusive e))

  pub flex-at : message_type v ≡ flex → not (strange_address v) ≡ eqb (refusal_of (drop at ws)) goes_on
  flex-at e = rw (← first_of ws at there) (asked-flex p some (typed flex e))

  pub none-at : (message_type v ≡ exclusive → ⊥) → (message_type v ≡ flex → ⊥)
      → false ≡ eqb (refusal_of (drop at ws)) goes_on
  none-at a b = asked-none p some (untyped exclusive a) (untyped flex b)

  pub voice1-at : message_type v ≡ voice1
      → (voice1_status v && good_fields (voice1_fields v)) ≡ eqb (screen neither_type p).answer goes_on
  voice1-at e = rw (← first_of ws at there) (good-voice1 p some (typed voice1 e))

  pub voice2-at : message_type v ≡ voice2
      → (good_status v && good_fields (checked_fields v (get_or ws (at + 1) 0)))
      ≡ eqb (screen neither_type p).answer goes_on
  voice2-at e =
      rw (← first_of ws at there, ← second_at (omega (arith, size-two v (inr e)))) (good-voice2 p some (typed voice2 e))

  module _ (a : message_type v ≡ voice1 → ⊥) (b : message_type v ≡ voice2 → ⊥) where
    pub single-at : length p < 2 → good_unchanged v 0 ≡ eqb (screen neither_type p).answer goes_on
    single-at h =
        ap (λ (x : ℕ). good_unchanged v x) (sym (get_or-eq_default p 0 {n = 1} (omega arith)))
        ∙ rw (← first_of ws at there) (good-other p some (untyped voice1 a) (untyped voice2 b))

    pub double-at : 2 ≤ length p → good_unchanged v (get_or ws (at + 1) 0) ≡ eqb (screen neither_type p).answer goes_on
    double-at h =
        rw (← first_of ws at there, ← second_at (omega (arith, words-of ws at there)))
        (good-other p some (untyped voice1 a) (untyped voice2 b))

-- the bytes and their number of the piece at a place, by its sort
pub flex-bytes : (ws : List ℕ) (at : ℕ) → message_type (get_or ws at 0) ≡ flex
    → ((piece_at ws at).bytes ≡ flex_bytes (get_or ws (at + 1) 0) (get_or ws (at + 2) 0) (get_or ws (at + 3) 0))
    × ((piece_at ws at).count ≡ 12)
unfolding piece_for flex_piece
flex-bytes ws at e = rw e (refl, refl)

pub exclusive-bytes : (ws : List ℕ) (at : ℕ) → (message_type (get_or ws at 0) ≡ flex → ⊥)
    → ((piece_at ws at).bytes ≡ exclusive_bytes (get_or ws at 0) (get_or ws (at + 1) 0)) × ((piece_at ws at).count ≤ 6)
unfolding piece_for exclusive_piece
exclusive-bytes ws at n = rw (ne_eqb (message_type (get_or ws at 0)) flex n) (refl, omega arith)

-- a piece is a whole packet of one of the two sorts
pub piece-some : (s : List ℕ) → refusal_of s ≡ goes_on → length (packet s) ≡ 0 → ⊥
unfolding sort_by screen_by
piece-some s e z = omega (arith, e, ap (λ (p : List ℕ). (sorted p).answer) (at_none (packet s) z))

piece-sort : (s : List ℕ) → refusal_of s ≡ goes_on
    → (message_type (first (packet s)) ≡ exclusive) ⊎ (message_type (first (packet s)) ≡ flex)
piece-sort s e = by_bool (eqb t exclusive) (λ a. inl (eqb-true t exclusive a))
    (λ a. by_bool (eqb t flex) (λ b. inr (eqb-true t flex b))
    (λ b. not-both (asked-none (packet s) (piece-some s e) (eqb-false t exclusive a) (eqb-false t flex b)
    ∙ eq-eqb (refusal_of s) goes_on e)))
  where
    t : ℕ
    t = message_type (first (packet s))

module _ (ws : List ℕ) (at : ℕ) (asked : refusal_of (drop at ws) ≡ goes_on) where
  abbrev w : ℕ
  w = get_or ws at 0

  whole : WholeAt ws at
  whole = whole-at ws at (piece-some (drop at ws) asked)

  sort : (message_type w ≡ exclusive) ⊎ (message_type w ≡ flex)
  sort = rw (first_of ws at whole) at (piece-sort (drop at ws) asked)

  pub standing : Standing ws at
  standing = go sort
    where
      go : (message_type w ≡ exclusive) ⊎ (message_type w ≡ flex) → Standing ws at
      go (inl e) = record {
        two = omega (arith, whole.fits, size-two w (inl e));
        four = λ f. absurd (omega (arith, e, f));
      }
      go (inr e) = record {
        two = omega (arith, whole.fits, size-four w e);
        four = λ f. omega (arith, whole.fits, size-four w e);
      }

  pub piece-at : piece_of (drop at ws) ≡ piece_at ws at
  unfolding piece_for
  piece-at = go sort
    where
      go : (message_type w ≡ exclusive) ⊎ (message_type w ≡ flex) → piece_of (drop at ws) ≡ piece_at ws at
      go (inl e) =
          let z = size-two w (inl e) in
          rw (first_of ws at whole, e, word_of ws at whole 1 (omega (arith, z)))
      go (inr e) =
          let z = size-four w e in
          rw (
            first_of ws at whole,
            e,
            word_of ws at whole 1 (omega (arith, z)),
            word_of ws at whole 2 (omega (arith, z)),
            word_of ws at whole 3 (omega (arith, z)),
          )

  pub slot_at : slot_by w ≡ chain_of (drop at ws)
  slot_at = rw (← first_of ws at whole) (slot-chain (first (packet (drop at ws))) (piece-low (drop at ws) asked))
