-- Laws of going up: a message that is read fits, and keeps a memory sound and its mark; and what going up can send.
-- Assumes nothing.
use Prim.Native.Nat.{ℕ, ◌+◌, ◌*◌, ◌%◌, ◌^◌, ◌<◌, ◌≤◌}
use mathlib.Core.Path.{◌≡◌, refl, sym, ap, ◌∙◌}
use mathlib.Core.Bool.{Bool, true, false, true≢false, not, ◌&&◌}
use mathlib.Core.Option.{Option, none, some}
use native.Mathlib.Omega.{arith}
use lib.Dec.{eqb, leb}
use borrow.Author.Tests.{eqb-false, eqb-true, leb-true, lt-leb, ne_eqb, not-true}
use Rattle.ground.proofs.Bools.{and_left, and_right, or-false}
use Rattle.ground.proofs.Cases.{by_bool, choose, not-both}
use Rattle.scale.specs.Scale.{down, up}
use Rattle.scale.proofs.Laws.{down-up, proved-core-rules, up_lt}
use Rattle.ump.specs.Word.{status}
use Rattle.memory.specs.declared.Memory.{Memory}
use Rattle.memory.specs.Memory.{address_open, data_high_present, marked, missing, number, present, registered, sound}
use Rattle.memory.specs.Memory.{with_data_high}
use Rattle.memory.proofs.Sound.{Opened, data-opened, data-unmarked, opened, parts, proved-stays-sound}
use Rattle.message.specs.Message.{Bank, Fits1, Fits2, Midi1, Midi2, assignable2, bank, channel_pressure1}
use Rattle.message.specs.Message.{channel_pressure2, control_change1, control_change2, no_bank, note_off1, note_off2, note_on1}
use Rattle.message.specs.Message.{note_on2, part, pitch_bend1, pitch_bend2, poly_pressure1, poly_pressure2, program_change1}
use Rattle.message.specs.Message.{program_change2, read1, registered2}
use Rattle.lift.specs.Lift.{AssignableBank, AssignableIndex, BankHigh, BankLow, Control, DataHigh, DataLow}
use Rattle.lift.specs.Lift.{Nothing, Plain, RegisteredBank, RegisteredIndex, Reset}
use Rattle.lift.specs.Lift.{Lifted, addressed2, banked2, control_of, controlled, data_high, data_low}
use Rattle.lift.specs.Lift.{enters, lift, reset}

pub read1-fits : (w : ℕ) → Fits1 (read1 w)
unfolding read1
read1-fits w =
    choose Fits1 (eqb (status w) 8) (λ _. omega arith)
    (λ _. choose Fits1 (eqb (status w) 9) (λ _. omega arith)
    (λ _. choose Fits1 (eqb (status w) 10) (λ _. omega arith)
    (λ _. choose Fits1 (eqb (status w) 11) (λ _. omega arith)
    (λ _. choose Fits1 (eqb (status w) 12) (λ _. omega arith)
    (λ _. choose Fits1 (eqb (status w) 13) (λ _. omega arith) (λ _. omega arith))))))

-- a controller that has a form of its own is plain, but for the one that resets all others
pub plain-control : (i : ℕ) → part i ≡ false → eqb i reset ≡ false → control_of i ≡ Plain
unfolding control_of
plain-control i h n =
    rw (
      no 0 refl,
      no 32 refl,
      no 101 refl,
      no 100 refl,
      no 99 refl,
      no 98 refl,
      no 6 refl,
      no 38 refl,
      no 96 refl,
      no 97 refl,
      n,
    )
  where
    no : (k : ℕ) → part k ≡ true → eqb i k ≡ false
    no k t = ne_eqb i k (λ e. not-both (sym h ∙ ap part e ∙ t))

reset-control : (i : ℕ) → eqb i reset ≡ true → control_of i ≡ Reset
unfolding control_of
reset-control i e = rw (eqb-true i reset e)

-- it is sent as itself, and the bank stays
pub own-control : (r : Memory) (i v : ℕ) → part i ≡ false
    → ((controlled (control_of i) r i v).sends ≡ some (control_change2 i (up 7 32 v)))
    × (banked2 (controlled (control_of i) r i v).after ≡ banked2 r)
unfolding controlled banked2
own-control r i v h =
    by_bool (eqb i reset) (λ e. rw (reset-control i e) (refl, refl)) (λ e. rw (plain-control i h e) (refl, refl))

-- and no other is
as_itself : Control → Bool
as_itself BankHigh = false
as_itself BankLow = false
as_itself RegisteredBank = false
as_itself RegisteredIndex = false
as_itself AssignableBank = false
as_itself AssignableIndex = false
as_itself DataHigh = false
as_itself DataLow = false
as_itself Nothing = false
as_itself Reset = true
as_itself Plain = true

only-own : (i : ℕ) → as_itself (control_of i) ≡ true → part i ≡ false
unfolding control_of as_itself
only-own i e =
    rw (ne_eqb i 0 (no 0 refl), ne_eqb i 6 (no 6 refl), ne_eqb i 32 (no 32 refl), ne_eqb i 38 (no 38 refl))
    (go (leb 96 i) refl)
  where
    no : (k : ℕ) → as_itself (control_of k) ≡ false → i ≡ k → ⊥
    no k n q = true≢false (sym (rw q at e) ∙ n)

    above : (i ≡ 96 → ⊥) → (i ≡ 97 → ⊥) → (i ≡ 98 → ⊥) → (i ≡ 99 → ⊥) → (i ≡ 100 → ⊥) → (i ≡ 101 → ⊥) → 96 ≤ i → 101 < i
    above a b c d e f h = omega arith

    go : (b : Bool) → leb 96 i ≡ b → (b && leb i 101) ≡ false
    go false h = refl
    go true h =
        lt-leb i 101
        (above (no 96 refl) (no 97 refl) (no 98 refl) (no 99 refl) (no 100 refl) (no 101 refl) (leb-true 96 i h))

-- a value that was scaled up: scaled down, it fits, and scaled up again it is what it was
abbrev pub Scaled : ℕ → ℕ → ℕ → Type 0
Scaled s d v = (down d s v < 2 ^ s) × (up s d (down d s v) ≡ v)

scaled : (s d v : ℕ) → v < 2 ^ s → Scaled s d (up s d v)
scaled s d v h = rw (down-up s d v) (h, refl)

-- a value that is entered on a channel that is marked or not: scaled down it has no low half where there is a mark
abbrev pub Halved : Bool → ℕ → Type 0
Halved coarse v = coarse ≡ true → down 32 14 v % 2 ^ 7 ≡ 0

-- what going up can send on such a channel
pub data Upward (coarse : Bool) : Midi2 → Type 0 where
  any_registered : {b i v : ℕ} → b ≤ 127 → i ≤ 127 → (eqb b 127 && eqb i 127) ≡ false → Scaled 14 32 v → Halved coarse v
      → Upward coarse (registered2 b i v)
  any_assignable : {b i v : ℕ} → b ≤ 127 → i ≤ 127 → Scaled 14 32 v → Halved coarse v → Upward coarse (assignable2 b i v)
  any_note_off : {n v : ℕ} → n ≤ 127 → Scaled 7 16 v → Upward coarse (note_off2 n v)
  any_note_on : {n v : ℕ} → n ≤ 127 → Scaled 7 16 v → (down 16 7 v ≡ 0 → ⊥) → Upward coarse (note_on2 n v)
  any_poly_pressure : {n v : ℕ} → n ≤ 127 → Scaled 7 32 v → Upward coarse (poly_pressure2 n v)
  any_plain : {i v : ℕ} → i ≤ 127 → Scaled 7 32 v → part i ≡ false → Upward coarse (control_change2 i v)
  any_program : {p : ℕ} → p ≤ 127 → Upward coarse (program_change2 p no_bank)
  any_bank_program : {p h l : ℕ} → p ≤ 127 → h ≤ 127 → l ≤ 127 → Upward coarse (program_change2 p (bank h l))
  any_pressure : {v : ℕ} → Scaled 7 32 v → Upward coarse (channel_pressure2 v)
  any_bend : {v : ℕ} → Scaled 14 32 v → Upward coarse (pitch_bend2 v)

velocity-fits : (v : ℕ) → Scaled 7 16 v → v < 2 ^ 16
velocity-fits v h = rw h.1 at (up_lt 7 16 (down 16 7 v) (omega arith) h.0)

pub upward-fits : {coarse : Bool} (m : Midi2) → Upward coarse m → Fits2 m
upward-fits _ (any_registered hb hi n x z) = omega arith
upward-fits _ (any_assignable hb hi x z) = omega arith
upward-fits _ (any_note_off {n} {v} h x) = (omega arith, velocity-fits v x)
upward-fits _ (any_note_on {n} {v} h x z) = (omega arith, velocity-fits v x)
upward-fits _ (any_poly_pressure h x) = omega arith
upward-fits _ (any_plain h x e) = omega arith
upward-fits _ (any_program h) = omega arith
upward-fits _ (any_bank_program h x y) = omega arith
upward-fits _ (any_pressure x) = tt
upward-fits _ (any_bend x) = tt

-- nothing, or something of the kind
abbrev pub IfSome : {A : Type 0} → (A → Type 0) → Option A → Type 0
IfSome P none = Unit {0}
IfSome P (some x) = P x

-- with a sound memory
module _ (r : Memory) (ok : sound r ≡ true) where
  abbrev Up : Midi2 → Type 0
  Up = Upward (marked r)

  -- what is sent to the memory's address; a marked channel has no low half
  enters-upward : (high low : ℕ) → Opened r → (marked r ≡ true → low ≡ 0) → IfSome Up (enters r high low).sends
  unfolding addressed2
  enters-upward high low o bare =
      let v = (high * 2 ^ 7 + low) % 2 ^ 14 in
      let x = scaled 14 32 v (omega arith) in
      let z : Halved (marked r) (up 14 32 v) = λ e. omega (arith, down-up 14 32 v, bare e) in
      choose Up (eqb r.kind registered)
      (λ k. any_registered o.bank_small o.index_small (rw k at o.not_null) x z)
      (λ k. any_assignable o.bank_small o.index_small x z)

  data-high-upward : (v : ℕ) → IfSome Up (data_high r v).sends
  unfolding data_high
  data-high-upward v =
      choose (λ (x : Lifted). IfSome Up x.sends) (marked r && address_open r)
      (λ p. enters-upward v 0 (opened r ok (and_right (marked r) (address_open r) p)) (λ _. refl)) (λ _. tt)

  data-low-upward : (v : ℕ) → IfSome Up (data_low r v).sends
  unfolding data_low
  data-low-upward v =
      choose (λ (x : Lifted). IfSome Up x.sends) (data_high_present r)
      (λ p. enters-upward r.data_high v (data-opened r ok p)
      (λ e. absurd (true≢false (sym e ∙ data-unmarked r ok p)))) (λ _. tt)

  pub lift-upward : (m : Midi1) → Fits1 m → IfSome Up (lift r m).sends
  unfolding lift controlled banked2 as_itself
  lift-upward (note_off1 n v) h = any_note_off h.0 (scaled 7 16 v (omega arith))
  lift-upward (note_on1 n v) h =
      choose Up (eqb v 0) (λ _. any_note_off h.0 (omega arith, proved-core-rules.minimum 7 16))
      (λ e. any_note_on h.0 (scaled 7 16 v (omega arith)) (λ z. eqb-false v 0 e (sym (down-up 7 16 v) ∙ z)))
  lift-upward (poly_pressure1 n v) h = any_poly_pressure h.0 (scaled 7 32 v (omega arith))
  lift-upward (control_change1 i v) h = go (control_of i) refl
    where
      go : (k : Control) → control_of i ≡ k → IfSome Up (controlled k r i v).sends
      go BankHigh e = tt
      go BankLow e = tt
      go RegisteredBank e = tt
      go RegisteredIndex e = tt
      go AssignableBank e = tt
      go AssignableIndex e = tt
      go DataHigh e = data-high-upward v
      go DataLow e = data-low-upward v
      go Nothing e = tt
      go Reset e = any_plain h.0 (scaled 7 32 v (omega arith)) (only-own i (ap as_itself e))
      go Plain e = any_plain h.0 (scaled 7 32 v (omega arith)) (only-own i (ap as_itself e))
  lift-upward (program_change1 p) h =
      let q = parts r ok in
      choose (λ (b : Bank). Up (program_change2 p b)) (present r.bank_high && present r.bank_low)
      (λ e. any_bank_program h
      (half r.bank_high q.high (and_left (present r.bank_high) (present r.bank_low) e))
      (half r.bank_low q.low (and_right (present r.bank_high) (present r.bank_low) e)))
      (λ _. any_program h)
    where
      half : (n : ℕ) → number n ≡ true → present n ≡ true → n ≤ 127
      half n k e = leb-true n 127 (rw (not-true (eqb n missing) e, or-false) at k)
  lift-upward (channel_pressure1 v) h = any_pressure (scaled 7 32 v (omega arith))
  lift-upward (pitch_bend1 v) h = any_bend (scaled 14 32 v (omega arith))

  pub lift-sound : (m : Midi1) → Fits1 m → sound (lift r m).after ≡ true
  unfolding lift controlled data_high data_low
  lift-sound (note_off1 n v) h = ok
  lift-sound (note_on1 n v) h = ok
  lift-sound (poly_pressure1 n v) h = ok
  lift-sound (control_change1 i v) h = go (control_of i)
    where
      go : (k : Control) → sound (controlled k r i v).after ≡ true
      go BankHigh = proved-stays-sound.bank_high r v h.1 ok
      go BankLow = proved-stays-sound.bank_low r v h.1 ok
      go RegisteredBank = proved-stays-sound.registered_bank r v h.1 ok
      go RegisteredIndex = proved-stays-sound.registered_index r v h.1 ok
      go AssignableBank = proved-stays-sound.assignable_bank r v h.1 ok
      go AssignableIndex = proved-stays-sound.assignable_index r v h.1 ok
      go DataHigh =
          choose (λ (x : Lifted). sound x.after ≡ true) (marked r && address_open r) (λ _. ok)
          (λ _. proved-stays-sound.data_high r v h.1 ok)
      go DataLow = choose (λ (x : Lifted). sound x.after ≡ true) (data_high_present r) (λ _. ok) (λ _. ok)
      go Nothing = ok
      go Reset = proved-stays-sound.address_closed r ok
      go Plain = ok
  lift-sound (program_change1 p) h = proved-stays-sound.bank_spent r ok
  lift-sound (channel_pressure1 v) h = ok
  lift-sound (pitch_bend1 v) h = ok

-- and no message changes the mark
pub lift-marks : (r : Memory) (m : Midi1) → (lift r m).after.coarse ≡ r.coarse
unfolding lift controlled data_high data_low with_data_high
lift-marks r (note_off1 n v) = refl
lift-marks r (note_on1 n v) = refl
lift-marks r (poly_pressure1 n v) = refl
lift-marks r (control_change1 i v) = go (control_of i)
  where
    go : (k : Control) → (controlled k r i v).after.coarse ≡ r.coarse
    go BankHigh = refl
    go BankLow = refl
    go RegisteredBank = refl
    go RegisteredIndex = refl
    go AssignableBank = refl
    go AssignableIndex = refl
    go DataHigh =
        choose (λ (x : Lifted). x.after.coarse ≡ r.coarse) (marked r && address_open r) (λ _. refl)
        (λ _. choose (λ (x : Memory). x.coarse ≡ r.coarse) (address_open r && not (marked r)) (λ _. refl) (λ _. refl))
    go DataLow = choose (λ (x : Lifted). x.after.coarse ≡ r.coarse) (data_high_present r) (λ _. refl) (λ _. refl)
    go Nothing = refl
    go Reset = refl
    go Plain = refl
lift-marks r (program_change1 p) = refl
lift-marks r (channel_pressure1 v) = refl
lift-marks r (pitch_bend1 v) = refl
