-- The words of what is sent, up or down, are found good. Assumes nothing.
use Prim.Native.Nat.{ℕ, ◌+◌, ◌*◌, ◌/◌, ◌%◌, ◌^◌, ◌<◌, ◌≤◌}
use mathlib.Core.Path.{◌≡◌, refl, ◌∙◌}
use mathlib.Core.Bool.{Bool, false, cond, ◌&&◌, ◌||◌}
use mathlib.Core.List.{List, [], ◌∷◌}
use native.Mathlib.Omega.{arith}
use lib.Dec.{eqb, leb}
use borrow.Author.Tests.{le-leb}
use Rattle.ground.proofs.Cases.{choose}
use Rattle.ump.specs.declared.Group.{Group}
use Rattle.ump.specs.declared.Channel.{Channel}
use Rattle.ump.specs.Word.{bank_flag, byte1, byte3, byte4, voice1, voice2}
use Rattle.fields.specs.Check.{Field, bad_place, checked_fields, good_status, seven, voice1_fields, voice2_fields}
use Rattle.screen.specs.Screen.{admitted, answering, check_voice1, goes_on, outside, placed, screen, screen_by}
use Rattle.screen.proofs.ScreenLaws.{screen-voice1}
use Rattle.message.specs.Message.{Fits1, Midi1, Midi2, channel_pressure1, control_change1, first2, note_off1, note_on1}
use Rattle.message.specs.Message.{pitch_bend1, poly_pressure1, program_change1, second2, voice_word, write1, write2}
use Rattle.message.proofs.MessageLaws.{built}
use Rattle.lift.proofs.LiftLaws.{Upward, any_assignable, any_bank_program, any_bend, any_note_off, any_note_on, any_plain}
use Rattle.lift.proofs.LiftLaws.{any_poly_pressure, any_pressure, any_program, any_registered}

module _ (g : Group) (c : Channel) (hg : g.0 < 16) (hc : c.0 < 16) where
  word-good1 : (s a b : ℕ) → 8 ≤ s → s ≤ 14 → a ≤ 127 → b ≤ 127
      → screen voice2 (voice_word 2 g s c a b ∷ []) ≡ answering goes_on
  unfolding check_voice1 voice1_fields bad_place
  word-good1 s a b hs hs' ha hb =
      let f = built 2 g s c a b (omega arith) hg (omega arith) hc (omega arith) (omega arith) in
      screen-voice1 (voice_word 2 g s c a b) f.is_type
      ∙ rw (f.is_status, f.is_byte3, f.is_byte4, le-leb 8 s hs, le-leb s 14 hs')
      (choose (λ (fs : List Field). placed (bad_place fs) goes_on ≡ answering goes_on)
      (eqb s 12 || eqb s 13) (λ _. rw (le-leb a 127 ha)) (λ _. rw (le-leb a 127 ha, le-leb b 127 hb)))

  pub good1 : (m : Midi1) → Fits1 m → screen voice2 (write1 g c m ∷ []) ≡ answering goes_on
  unfolding write1
  good1 (note_off1 n x) h = word-good1 8 n x (omega arith) (omega arith) (omega arith) (omega arith)
  good1 (note_on1 n x) h = word-good1 9 n x (omega arith) (omega arith) (omega arith) (omega arith)
  good1 (poly_pressure1 n x) h = word-good1 10 n x (omega arith) (omega arith) (omega arith) (omega arith)
  good1 (control_change1 i x) h = word-good1 11 i x (omega arith) (omega arith) (omega arith) (omega arith)
  good1 (program_change1 p) h = word-good1 12 p 0 (omega arith) (omega arith) (omega arith) (omega arith)
  good1 (channel_pressure1 x) h = word-good1 13 x 0 (omega arith) (omega arith) (omega arith) (omega arith)
  good1 (pitch_bend1 x) h = word-good1 14 (x % 128) (x / 128) (omega arith) (omega arith) (omega arith) (omega arith)

  word-good2 : (s a b v : ℕ) → s < 16 → a < 256 → b < 256 → eqb s 7 ≡ false
      → bad_place
      (cond (leb 2 s && leb s 5) (seven a ∷ seven b ∷ [])
      (cond (eqb s 12)
      (seven (byte1 v) ∷ cond (eqb (bank_flag (voice_word 4 g s c a b)) 1) (seven (byte3 v) ∷ seven (byte4 v) ∷ []) [])
      (cond (eqb s 13 || eqb s 14) [] (seven a ∷ []))))
      ≡ 0
      → screen voice1 (voice_word 4 g s c a b ∷ v ∷ []) ≡ answering goes_on
  unfolding screen_by outside admitted good_status checked_fields voice2_fields
  word-good2 s a b v hs ha hb h k =
      let f = built 4 g s c a b (omega arith) hg hs hc ha hb in
      rw (f.is_type, f.is_status, f.is_byte3, f.is_byte4, h, k)

  pub good2 : {coarse : Bool} (m : Midi2) → Upward coarse m → screen voice1 (write2 g c m) ≡ answering goes_on
  unfolding first2 second2 bad_place
  good2 _ (any_registered {b} {i} {v} hb hi _ _ _) =
      word-good2 2 b i v (omega arith) (omega arith) (omega arith) refl (rw (le-leb b 127 hb, le-leb i 127 hi))
  good2 _ (any_assignable {b} {i} {v} hb hi _ _) =
      word-good2 3 b i v (omega arith) (omega arith) (omega arith) refl (rw (le-leb b 127 hb, le-leb i 127 hi))
  good2 _ (any_note_off {n} {v} h _) =
      word-good2 8 n 0 (v * 2 ^ 16) (omega arith) (omega arith) (omega arith) refl (rw (le-leb n 127 h))
  good2 _ (any_note_on {n} {v} h _ _) =
      word-good2 9 n 0 (v * 2 ^ 16) (omega arith) (omega arith) (omega arith) refl (rw (le-leb n 127 h))
  good2 _ (any_poly_pressure {n} {v} h _) =
      word-good2 10 n 0 v (omega arith) (omega arith) (omega arith) refl (rw (le-leb n 127 h))
  good2 _ (any_plain {i} {v} h _ _) = word-good2 11 i 0 v (omega arith) (omega arith) (omega arith) refl (rw (le-leb i 127 h))
  good2 _ (any_program {p} h) =
      let k : bank_flag (voice_word 4 g 12 c 0 0) ≡ 0 = omega arith in
      word-good2 12 0 0 (p * 2 ^ 24) (omega arith) (omega arith) (omega arith) refl
      (rw (k, le-leb (byte1 (p * 2 ^ 24)) 127 (omega arith)))
  good2 _ (any_bank_program {p} {h} {l} hp hh hl) =
      let k : bank_flag (voice_word 4 g 12 c 0 1) ≡ 1 = omega arith in
      let v = p * 2 ^ 24 + h * 2 ^ 8 + l in
      word-good2 12 0 1 v (omega arith) (omega arith) (omega arith) refl
      (rw (
        k,
        le-leb (byte1 v) 127 (omega arith),
        le-leb (byte3 v) 127 (omega arith),
        le-leb (byte4 v) 127 (omega arith),
      ))
  good2 _ (any_pressure {v} _) = word-good2 13 0 0 v (omega arith) (omega arith) (omega arith) refl refl
  good2 _ (any_bend {v} _) = word-good2 14 0 0 v (omega arith) (omega arith) (omega arith) refl refl
