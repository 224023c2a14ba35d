-- The pieces of a stream: a whole one goes and a short one stops, joined they are the stream, and what the screening
-- says of them. Assumes nothing.
use Prim.Native.Nat.{ℕ, zero, suc, pred, ◌≤◌}
use mathlib.Core.Path.{◌≡◌, refl, sym, ◌∙◌}
use mathlib.Core.Bool.{true, false, not, ◌||◌}
use mathlib.Core.List.{List, [], ◌∷◌, ◌++◌}
use native.Mathlib.Omega.{arith}
use lib.Dec.{eqb}
use lib.ListN.{drop, length, take, take-append-drop}
use borrow.Author.Tests.{eqb-true, lt-leb, ne_eqb}
use Rattle.ground.specs.Lists.{joined}
use Rattle.ground.proofs.Bools.{and_left, and_right}
use Rattle.ground.proofs.Cases.{by_bool, choose, not-both}
use Rattle.ump.specs.Word.{message_type, status}
use Rattle.ump.specs.Packet.{Whole, cut, cut_after, first, packet, second, size}
use Rattle.ump.proofs.PacketLaws.{packet-whole, size-range}
use Rattle.stream.specs.Answers.{bad_data, bad_status, reserved_type, wrong_protocol}
use Rattle.screen.specs.Screen.{Screened}
use Rattle.screen.specs.Screen.{admitted, answering, outside, reserved, screen_by}
use Rattle.fields.specs.Check.{bad_place, checked_fields, good_status}
use Rattle.recording.specs.Recording.{found, is_stamp, passes}
use Rattle.stream.proofs.Pieces.{Short}

-- a stream is its pieces, one after another
pub joined-cut : (s : List ℕ) → joined (cut s) ≡ s
unfolding cut cut_after
joined-cut s = go 0 s
  where
    go : (k : ℕ) (s : List ℕ) → joined (cut_after k s) ≡ drop k s
    go zero [] = refl
    go (suc k) [] = refl
    go (suc k) (w ∷ s) = go k s
    go zero (w ∷ s) = one (size w) (size-range w) (go (pred (size w)) s)
      where
        one : (n : ℕ) → (1 ≤ n) × (n ≤ 4) → joined (cut_after (pred n) s) ≡ drop (pred n) s
            → take n (w ∷ s) ++ joined (cut_after (pred n) s) ≡ w ∷ s
        one zero r e = absurd (omega arith)
        one (suc n) r e = rw e (take-append-drop (suc n) (w ∷ s))

-- a whole piece has words, and a short one has no packet
pub whole-some : (p : List ℕ) → Whole p → length p ≡ 0 → ⊥
unfolding Whole
whole-some [] h e = h
whole-some (w ∷ s) h e = absurd (omega arith)

pub short-some : (p : List ℕ) → Short p → length p ≡ 0 → ⊥
short-some [] h e = h
short-some (w ∷ s) h e = absurd (omega arith)

pub short_none : (p : List ℕ) → Short p → packet p ≡ []
unfolding packet
short_none [] h = refl
short_none (w ∷ s) h = rw (lt-leb (size w) (length (w ∷ s)) h)

-- what is found of a packet: where no protocol is wrong and no rule holds, the type, the status and the fields
finds : (P : Screened → Type 0) (p : List ℕ) → (length p ≡ 0 → ⊥) → P (answering reserved_type) → P (answering bad_status)
    → ((k : ℕ) → P (record { answer = bad_data; place = k })) → P (answering 0) → P (found p)
unfolding screen_by outside admitted
finds P p n r b d g =
    let t : eqb (message_type (first p)) 16 ≡ false = ne_eqb (message_type (first p)) 16 (λ e. omega (arith, e)) in
    rw (ne_eqb (length p) 0 n, t)
    (choose P (reserved (message_type (first p))) (λ _. r)
    (λ _. choose P (not (good_status (first p))) (λ _. b)
    (λ _. choose P (eqb (bad_place (checked_fields (first p) (second p))) 0) (λ _. g) (λ _. d _))))

pub by-refusal : (p : List ℕ) → Whole p
    → passes p ≡ not (eqb (found p).answer reserved_type || eqb (found p).answer bad_status || eqb (found p).answer bad_data)
by-refusal p h =
    finds (λ (s : Screened). eqb s.answer 0 ≡ not (eqb s.answer reserved_type || eqb s.answer bad_status || eqb s.answer bad_data))
    p (whole-some p h) refl refl (λ _. refl) refl

pub no-wrong : (p : List ℕ) → (found p).answer ≡ wrong_protocol → ⊥
unfolding screen_by
no-wrong [] e = absurd (omega (arith, e))
no-wrong (w ∷ s) e =
    finds (λ (f : Screened). f.answer ≡ wrong_protocol → ⊥) (w ∷ s) (λ z. absurd (omega (arith, z)))
    (λ z. absurd (omega (arith, z))) (λ z. absurd (omega (arith, z))) (λ _ z. absurd (omega (arith, z)))
    (λ z. absurd (omega (arith, z))) e

-- a JR Timestamp has one word, and is always kept; so a piece that is dropped is none
pub stamp-size : (w : ℕ) → is_stamp w ≡ true → size w ≡ 1
unfolding size
stamp-size w h = let m = eqb-true (message_type w) 0 (and_left (eqb (message_type w) 0) (eqb (status w) 2) h) in rw m

pub stamp-passes : (p : List ℕ) → Whole p → is_stamp (first p) ≡ true → passes p ≡ true
unfolding screen_by outside admitted good_status checked_fields bad_place
stamp-passes p h e =
    let m = eqb-true (message_type (first p)) 0 (and_left (eqb (message_type (first p)) 0) (eqb (status (first p)) 2) e) in
    let s = eqb-true (status (first p)) 2 (and_right (eqb (message_type (first p)) 0) (eqb (status (first p)) 2) e) in
    rw (ne_eqb (length p) 0 (whole-some p h), m, s)

pub dropped-whole : (p : List ℕ) → Whole p → passes (packet p) ≡ false → is_stamp (first p) ≡ false
dropped-whole p h e =
    by_bool (is_stamp (first p)) (λ s. not-both (sym (rw (packet-whole p h) at e) ∙ stamp-passes p h s)) (λ s. s)
