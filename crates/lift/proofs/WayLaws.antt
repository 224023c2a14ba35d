-- Two ways of `lifted`: a note by one row is the note of its status, and the halves of a bend are a value of fourteen bits.
-- Assumes nothing.
use Prim.Native.Nat.{ℕ, ◌+◌, ◌*◌, ◌%◌, ◌^◌}
use mathlib.Core.Path.{◌≡◌}
use mathlib.Core.Bool.{true, ◌||◌}
use native.Mathlib.Omega.{arith}
use lib.Dec.{eqb}
use borrow.Author.Tests.{eqb-true}
use Rattle.ground.proofs.Cases.{by_bool}
use Rattle.scale.specs.Scale.{up}
use Rattle.ump.specs.Word.{data1, data2, status}
use Rattle.memory.specs.declared.Memory.{Memory}
use Rattle.message.specs.Message.{first2, read1, second2}
use Rattle.lift.specs.Lift.{effect_of, key_effect, lift, shown_status}
use Rattle.lift.specs.Values.{message_in, note_in}

pub bend-way : (w : ℕ) → (data2 w * 2 ^ 7 + data1 w) % 2 ^ 14 ≡ data2 w * 2 ^ 7 + data1 w
bend-way w = omega arith

module _ (w : ℕ) (r : Memory) where
  off-way : status w ≡ 8 → note_in w r (status w) ≡ message_in w r (read1 w)
  unfolding read1 lift effect_of first2 key_effect second2 shown_status
  off-way e = rw e (by_bool (eqb (data2 w) 0) (λ z. rw z) (λ z. rw z))

  on-way : status w ≡ 9 → note_in w r (status w) ≡ message_in w r (read1 w)
  unfolding read1 lift effect_of first2 key_effect second2 shown_status up
  on-way e = rw e (by_bool (eqb (data2 w) 0) (λ z. rw (z, eqb-true (data2 w) 0 z)) (λ z. rw z))

  pub note-way : (eqb (status w) 8 || eqb (status w) 9) ≡ true → note_in w r (status w) ≡ message_in w r (read1 w)
  note-way h =
      by_bool (eqb (status w) 8) (λ e. off-way (eqb-true (status w) 8 e))
      (λ e. on-way (eqb-true (status w) 9 (rw e at h)))
