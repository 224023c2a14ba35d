-- The screening of a packet that goes down, as one yes or no by its first two words: of a MIDI 2.0 voice message, and
-- of any other packet. Assumes nothing.
use Prim.Native.Nat.{ℕ, ◌+◌, ◌≤◌, ◌<◌}
use mathlib.Core.Path.{◌≡◌, refl, sym, ap, ◌∙◌}
use mathlib.Core.Bool.{Bool, true, false, true≢false, cond, not, ◌&&◌, ◌||◌}
use mathlib.Core.List.{List}
use native.Mathlib.Omega.{arith}
use lib.Dec.{eqb, leb}
use lib.ListN.{length}
use borrow.Author.Tests.{eqb-false, eqb-true, leb-false, leb-true, ne_eqb}
use Rattle.ground.proofs.Bools.{and-false, neither_left, neither_right, or-false}
use Rattle.ground.proofs.Cases.{by_bool}
use Rattle.ump.specs.Word.{message_type, status, voice1, voice2}
use Rattle.ump.specs.Packet.{first, second}
use Rattle.stream.specs.Answers.{bad_data, bad_status, not_for_room, not_yours}
use Rattle.screen.specs.declared.Rule.{Rule}
use Rattle.fields.specs.Check.{checked_fields, good_fields, good_status, good_unchanged, unchanged, voice2_fields}
use Rattle.screen.specs.Screen.{admitted, answering, for_beginners, goes_on, outside, reserved, ruled, screen_by}
use Rattle.screen.specs.Downward.{lets_down}
use Rattle.screen.proofs.ScreenLaws.{unchanged-free, unfenced}
use Rattle.std.specs.Prelude.{is_some}

-- a rule that asks nothing lets everything pass
pub unruled-lets : (rule : Rule) (w : ℕ) → ruled rule ≡ false → lets_down rule w ≡ true
unfolding lets_down outside
unruled-lets rule w e =
    rw (neither_left rule.beginners (is_some rule.fence) e, unfenced rule.fence w (neither_right rule.beginners (is_some rule.fence) e))

-- what is for the beginners' room of all that is no MIDI 1.0 voice message
room-down : (rule : Rule) (w : ℕ) → (message_type w ≡ voice1 → ⊥)
    → eqb (admitted rule w) goes_on ≡ (not rule.beginners || eqb (message_type w) 0)
unfolding admitted for_beginners
room-down rule w n =
    rw (ne_eqb (message_type w) voice1 n, or-false (eqb (message_type w) 0))
    (go rule.beginners (eqb (message_type w) 0))
  where
    go : (b t : Bool) → eqb (cond b (cond t goes_on not_for_room) goes_on) goes_on ≡ (not b || t)
    go true true = refl
    go true false = refl
    go false t = refl

-- the last of the screening: the fence, the check, and what a good packet is answered with
goes : (outside status_good fields_good : Bool) (answer place : ℕ)
    → eqb (cond outside (answering not_yours)
    (cond (not status_good) (answering bad_status)
    (cond fields_good (answering answer) (record { answer = bad_data; place = place })))).answer goes_on
    ≡ ((not outside && eqb answer goes_on) && (status_good && fields_good))
goes true s f a k = refl
goes false false f a k = sym (and-false (eqb a goes_on))
goes false true false a k = sym (and-false (eqb a goes_on))
goes false true true a k = go (eqb a goes_on)
  where
    go : (b : Bool) → b ≡ (b && true)
    go true = refl
    go false = refl

-- three numbers in a row leave out no fourth
three : (t a : ℕ) → a ≤ t → t < a + 3 → (t ≡ a → ⊥) → (t ≡ a + 1 → ⊥) → (t ≡ a + 2 → ⊥) → ⊥
three t a low high x y z = omega arith

-- a type that is neither passed on unchanged nor of voice messages is reserved
kept : (t : ℕ) → t < 16 → (t ≡ voice1 → ⊥) → (t ≡ voice2 → ⊥) → unchanged t ≡ false → reserved t ≡ true
kept t below a b u =
    by_bool (leb 6 t)
    (λ e. by_bool (leb t 12) (λ f. rw (e, f)) (λ f. rw (fourteen (leb-false t 12 f))))
    (λ e. absurd (by_bool (leb 3 t)
    (λ f. three t 3 (leb-true 3 t f) (leb-false 6 t e) (passed_on 3 refl) b (passed_on 5 refl))
    (λ f. three t 0 (omega arith) (leb-false 3 t f) (passed_on 0 refl) (passed_on 1 refl) a)))
  where
    passed_on : (k : ℕ) → unchanged k ≡ true → t ≡ k → ⊥
    passed_on k h q = true≢false (sym h ∙ ap unchanged (sym q) ∙ u)

    fourteen : 12 < t → t ≡ 14
    fourteen n = omega (arith, n, passed_on 13 refl, passed_on 15 refl)

module _ (rule : Rule) (p : List ℕ) (some : eqb (length p) 0 ≡ false) where
  abbrev w : ℕ
  w = first p

  abbrev Goes : Bool
  Goes = eqb (screen_by rule voice1 p).answer goes_on

  -- of a packet whose type is neither reserved nor of the wrong protocol
  asked : reserved (message_type w) ≡ false → eqb (message_type w) voice1 ≡ false
      → Goes ≡ (lets_down rule w && (good_status w && good_fields (checked_fields w (second p))))
  unfolding screen_by lets_down
  asked free right =
      rw (some, free, right, ← room-down rule w (eqb-false (message_type w) voice1 right))
      (goes (outside rule w) (good_status w) (good_fields (checked_fields w (second p))) (admitted rule w) _)

  pub voice2-goes : message_type w ≡ voice2
      → Goes ≡ (lets_down rule w && (not (eqb (status w) 7) && good_fields (voice2_fields w (second p))))
  unfolding good_status checked_fields
  voice2-goes h = rw h at (asked (rw h) (rw h))

  pub other_goes : (message_type w ≡ voice2 → ⊥) → Goes ≡ (lets_down rule w && good_unchanged w (second p))
  unfolding screen_by good_unchanged
  other_goes n =
      by_bool (unchanged (message_type w))
      (λ u. asked (unchanged-free (message_type w) u) (ne_eqb (message_type w) voice1
      (λ q. true≢false (sym u ∙ ap unchanged q)))
      ∙ rw u)
      (λ u. by_bool (eqb (message_type w) voice1) (λ e. rw (
        some,
        u,
        eqb-true (message_type w) voice1 e,
        and-false
            (lets_down rule w),
      ))
      (λ e. rw (
        some,
        u,
        kept (message_type w) (omega arith) (eqb-false (message_type w) voice1 e) n u,
        and-false
            (lets_down rule w),
      )))
