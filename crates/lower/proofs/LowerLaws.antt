-- Going down: the statuses without a form; that at most four messages come of one; and the words of notes, poly
-- pressure and controllers. Assumes nothing.
use mathlib.Core.Bool.{Bool, true, false, true≢false, cond, ◌&&◌}
use mathlib.Core.List.{[], ◌∷◌, map}
use mathlib.Core.Path.{◌≡◌, refl, sym, ap, ◌∙◌}
use borrow.Author.Tests.{eqb-false, eqb-true, leb-true, ne_eqb}
use Prim.Native.Nat.{ℕ, ◌≤◌}
use native.Mathlib.Omega.{arith}
use lib.Dec.{eqb, leb}
use lib.ListN.{length}
use Rattle.ground.proofs.Bools.{and_left, and_right}
use Rattle.ground.proofs.Cases.{by_bool}
use Rattle.ump.specs.Word.{byte3, byte4, channel_of, group_of, status, voice1}
use Rattle.scale.specs.Scale.{down}
use Rattle.message.specs.Message.{Midi2, assignable2, assignable_per_note2, bank, channel_pressure2, control_change1}
use Rattle.message.specs.Message.{control_change2, no_bank, note_off2, note_on2, part, per_note_management2}
use Rattle.message.specs.Message.{per_note_pitch_bend2, pitch_bend2, poly_pressure2, program_change2, read2, registered2}
use Rattle.message.specs.Message.{registered_per_note2, relative_assignable2, relative_registered2, voice_word, write1}
use Rattle.lower.specs.Lower.{entered, lower}
use Rattle.lower.specs.Keyed.{keyed, keyed_value, keyed_words}

-- The statuses that have no form: 0, 1, 4, 5, 6 and F. `s` is the status, found to be none of the others.
pub formless-status : (w v s : ℕ) → s ≡ status w → keyed s ≡ false → (s ≡ 2 → ⊥) → (s ≡ 3 → ⊥) → (s ≡ 12 → ⊥)
    → (s ≡ 13 → ⊥) → (s ≡ 14 → ⊥) → lower (read2 w v) ≡ []
unfolding read2 lower
formless-status w v s e none n2 n3 n12 n13 n14 =
    rw (
      is-not 2 n2,
      is-not 3 n3,
      unkeyed 8 refl,
      unkeyed 9 refl,
      unkeyed 10 refl,
      unkeyed 11 refl,
      is-not 12 n12,
      is-not 13 n13,
      is-not 14 n14,
    )
    (go (eqb (status w) 0) (eqb (status w) 1) (eqb (status w) 4) (eqb (status w) 5) (eqb (status w) 6))
  where
    is-not : (k : ℕ) → (s ≡ k → ⊥) → eqb (status w) k ≡ false
    is-not k n = ap (λ (x : ℕ). eqb x k) (sym e) ∙ ne_eqb s k n

    unkeyed : (k : ℕ) → keyed k ≡ true → eqb (status w) k ≡ false
    unkeyed k h = is-not k (λ q. true≢false (sym h ∙ ap keyed (sym q) ∙ none))

    go : (a b c d e : Bool)
        → lower (cond a (registered_per_note2 (byte3 w) (byte4 w) v)
        (cond b (assignable_per_note2 (byte3 w) (byte4 w) v)
        (cond c (relative_registered2 (byte3 w) (byte4 w) v)
        (cond d (relative_assignable2 (byte3 w) (byte4 w) v)
        (cond e (per_note_pitch_bend2 (byte3 w) v) (per_note_management2 (byte3 w) (byte4 w))))))) ≡ []
    go true b c d e = refl
    go false true c d e = refl
    go false false true d e = refl
    go false false false true e = refl
    go false false false false true = refl
    go false false false false false = refl

-- a MIDI 2.0 message is at most four MIDI 1.0 messages
pub lower-few : (m : Midi2) → length (lower m) ≤ 4
unfolding lower
lower-few (registered_per_note2 n i v) = omega arith
lower-few (assignable_per_note2 n i v) = omega arith
lower-few (registered2 b i v) = go (eqb b 127 && eqb i 127)
  where
    go : (t : Bool) → length (cond t [] (entered 101 b 100 i (down 32 14 v))) ≤ 4
    go true = omega arith
    go false = omega arith
lower-few (assignable2 b i v) = omega arith
lower-few (relative_registered2 b i v) = omega arith
lower-few (relative_assignable2 b i v) = omega arith
lower-few (per_note_pitch_bend2 n v) = omega arith
lower-few (note_off2 n v) = omega arith
lower-few (note_on2 n v) = omega arith
lower-few (poly_pressure2 n v) = omega arith
lower-few (control_change2 i v) = go (part i)
  where
    go : (t : Bool) → length (cond t [] (control_change1 i (down 32 7 v) ∷ [])) ≤ 4
    go true = omega arith
    go false = omega arith
lower-few (per_note_management2 n f) = omega arith
lower-few (program_change2 p no_bank) = omega arith
lower-few (program_change2 p (bank h l)) = omega arith
lower-few (channel_pressure2 v) = omega arith
lower-few (pitch_bend2 v) = omega arith

-- the words of notes, poly pressure and controllers are those of their messages
pub keyed-lowers : (w v : ℕ) → keyed (status w) ≡ true
    → keyed_words w v ≡ map (write1 (group_of w) (channel_of w)) (lower (read2 w v))
unfolding keyed_words keyed_value read2 lower write1
keyed-lowers w v h =
    by_bool (eqb (status w) 8) (λ e. rw (eqb-true (status w) 8 e))
    (λ a. by_bool (eqb (status w) 9) (λ e. rw (eqb-true (status w) 9 e))
    (λ b. by_bool (eqb (status w) 10) (λ e. rw (eqb-true (status w) 10 e))
    (λ c. rw (last a b c) (controller (part (byte3 w))))))
  where
    last : eqb (status w) 8 ≡ false → eqb (status w) 9 ≡ false → eqb (status w) 10 ≡ false → status w ≡ 11
    last a b c =
        omega (
          arith,
          eqb-false (status w) 8 a,
          eqb-false (status w) 9 b,
          eqb-false (status w) 10 c,
          leb-true 8 (status w) (and_left (leb 8 (status w)) (leb (status w) 11) h),
          leb-true (status w) 11 (and_right (leb 8 (status w)) (leb (status w) 11) h),
        )

    controller : (t : Bool)
        → cond t [] (voice_word voice1 (group_of w) 11 (channel_of w) (byte3 w) (down 32 7 v) ∷ [])
        ≡ map (write1 (group_of w) (channel_of w)) (cond t [] (control_change1 (byte3 w) (down 32 7 v) ∷ []))
    controller true = refl
    controller false = refl
