-- The effect of a message is what it does to its channel's record: the keys that it presses or releases, or what it
-- leaves to remember, and never both.
use Prim.Native.Nat.{ℕ}
use mathlib.Core.Path.{◌≡◌, refl}
use mathlib.Core.Bool.{true, false}
use lib.Dec.{eqb}
use borrow.Author.Tests.{eqb-true}
use Rattle.ground.proofs.Cases.{by_bool, choose}
use Rattle.ump.specs.Word.{data1, data2, status}
use Rattle.keys.specs.History.{effect}
use Rattle.memory.specs.Memory.{data_high_present}
use Rattle.channel.specs.declared.Record.{Record}
use Rattle.effect.specs.Effect.{effected}
use Rattle.message.specs.Message.{Midi1, control_change1, read1}
use Rattle.lift.specs.Lift.{AssignableBank, AssignableIndex, BankHigh, BankLow, Control, DataHigh, DataLow}
use Rattle.lift.specs.Lift.{Nothing, Plain, RegisteredBank, RegisteredIndex, Reset}
use Rattle.lift.specs.Lift.{Lifted, control_effect, control_of, controlled, data_high, data_low, effect_of, ends_notes, lift}
use Rattle.lift.specs.Lift.{plain_effect}
use Rattle.lift.specs.Played.{event, record_after}

-- a controller that releases every key is plain
ends-plain : (i : ℕ) → ends_notes i ≡ true → control_of i ≡ Plain
unfolding control_of
ends-plain i h =
    by_bool (eqb i 120) (λ e. rw (eqb-true i 120 e)) (λ e. rw (eqb-true i 123 (rw e at h)))

module _ (r : Record) (w : ℕ) where
  abbrev Does : Midi1 → Type 0
  Does m = effected r (effect_of m) (lift r.memory m).after (data1 w) ≡ record_after r m

  control-does : (i v : ℕ) → Does (control_change1 i v)
  unfolding effected effect_of lift event effect control_effect controlled plain_effect data_high data_low
  control-does i v = by_bool (ends_notes i) (λ e. rw (ends-plain i e, e)) (λ e. rw e (go e (control_of i)))
    where
      go : ends_notes i ≡ false → (k : Control) → effected r (control_effect k i) (controlled k r.memory i v).after (data1 w)
          ≡ record { keys = r.keys; memory = (controlled k r.memory i v).after }
      go e BankHigh = refl
      go e BankLow = refl
      go e RegisteredBank = refl
      go e RegisteredIndex = refl
      go e AssignableBank = refl
      go e AssignableIndex = refl
      go e DataHigh = refl
      go e DataLow =
          choose (λ (x : Lifted). r ≡ record { keys = r.keys; memory = x.after }) (data_high_present r.memory)
          (λ _. refl) (λ _. refl)
      go e Nothing = refl
      go e Reset = refl
      go e Plain = rw e

  pub effect-does : Does (read1 w)
  unfolding effected effect_of lift event effect read1
  effect-does =
      choose Does (eqb (status w) 8) (λ _. refl)
      (λ _. choose Does (eqb (status w) 9) (λ _. by_bool (eqb (data2 w) 0) (λ z. rw z) (λ z. rw z))
      (λ _. choose Does (eqb (status w) 10) (λ _. refl)
      (λ _. choose Does (eqb (status w) 11) (λ _. control-does (data1 w) (data2 w))
      (λ _. choose Does (eqb (status w) 12) (λ _. refl)
      (λ _. choose Does (eqb (status w) 13) (λ _. refl) (λ _. refl))))))
