-- Soundness by what is open: an exclusive, or nothing or a shorter message, of which at most one byte is held. Assumes
-- nothing.
use Prim.Native.Nat.{ℕ, ◌≤◌}
use mathlib.Core.Path.{◌≡◌, sym}
use mathlib.Core.Bool.{Bool, true, ◌&&◌, ◌||◌}
use native.Mathlib.Omega.{arith}
use lib.Dec.{eqb, leb, ltb}
use borrow.Author.Tests.{eqb-true, le-ltb, ltb-true, ne_eqb}
use Rattle.ground.proofs.Bools.{and-false, and_left, and_right, or-false}
use Rattle.ground.proofs.Cases.{by_bool, choose}
use Rattle.cable.specs.declared.Cable.{Cable}
use Rattle.cable.specs.State.{need, sound, sound_held, sound_running, voice_byte}

need-most : (b : ℕ) → need b ≤ 2
unfolding need
need-most b =
    choose (λ x. x ≤ 2) (eqb b 0xF2) (λ _. omega arith)
    (λ _.
    choose (λ x. x ≤ 2) (eqb b 0xF1 || (eqb b 0xF3 || (leb 0xC0 b && ltb b 0xE0))) (λ _. omega arith)
    (λ _. choose (λ x. x ≤ 2) (leb 0xF0 b) (λ _. omega arith) (λ _. omega arith)))

module _ (s : Cable) where
  abbrev begins : Bool
  begins = leb s.count 6 && (leb s.begun 1 && leb s.begun s.count)

  abbrev none : Bool
  none = eqb s.status 0 && (eqb s.count 0 && eqb s.begun 0)

  abbrev known : Bool
  known = leb 0x80 s.status && ltb s.status 0xF4

  abbrev serves : Bool
  serves = eqb s.begun 0 && (eqb s.running 0 || eqb s.running s.status)

  abbrev waits : Bool
  waits = ltb s.count (need s.status) && serves

  pub exclusive-sound : s.status ≡ 0xF0 → ((eqb s.running 0 && begins) && sound_held s) ≡ sound s
  unfolding sound need
  exclusive-sound e =
      by_bool (eqb s.running 0)
      (λ t. rw (e, t, le-ltb s.count 0 (omega arith), or-false begins))
      (λ t. rw (e, t, le-ltb s.count 0 (omega arith)) (sym (and-false (voice_byte s.running))))

  few : (none || (known && waits)) ≡ true → s.count ≤ 1
  few h =
      by_bool none
      (λ t.
      let y = and_right (eqb s.status 0) (eqb s.count 0 && eqb s.begun 0) t in
      omega (arith, eqb-true s.count 0 (and_left (eqb s.count 0) (eqb s.begun 0) y)))
      (λ t.
      let w : (known && waits) ≡ true = rw t at h in
      let l = and_left (ltb s.count (need s.status)) serves (and_right known waits w) in
      omega (arith, ltb-true s.count (need s.status) l, need-most s.status))

  pub short-sound : (held : Bool) → (s.status ≡ 0xF0 → ⊥) → (s.count ≤ 1 → held ≡ sound_held s)
      → (sound_running s && ((none || (known && waits)) && held)) ≡ sound s
  unfolding sound
  short-sound held n k =
      by_bool (none || (known && waits))
      (λ o. rw (k (few o), ne_eqb s.status 0xF0 n))
      (λ o. rw (ne_eqb s.status 0xF0 n, o))
