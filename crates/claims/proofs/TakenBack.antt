-- Messages: going up undoes going down, memory by memory. Assumes nothing.
use Prim.Native.Nat.{ℕ, ◌+◌, ◌*◌, ◌/◌, ◌%◌, ◌^◌, ◌<◌}
use mathlib.Core.Path.{◌≡◌, refl, ◌∙◌}
use mathlib.Core.Bool.{Bool, true}
use mathlib.Core.Option.{Option, none, some}
use mathlib.Core.List.{List, [], ◌∷◌, ◌++◌}
use native.Mathlib.Omega.{arith}
use native.Mathlib.Nat.{div-add-mod'}
use lib.Dec.{eqb}
use borrow.Author.Tests.{ne_eqb}
use Rattle.ground.specs.Lists.{All}
use Rattle.ground.proofs.Cases.{by_bool}
use Rattle.scale.specs.Scale.{down}
use Rattle.memory.specs.declared.Memory.{Memory}
use Rattle.memory.specs.Memory.{kept, marked, missing, sound, unmarked, with_data_high}
use Rattle.message.specs.Message.{Fits1, Midi1, Midi2, no_bank}
use Rattle.lift.specs.Lift.{addressed2, banked2, control_of, controlled, data_high, data_low, lift}
use Rattle.lift.proofs.LiftLaws.{Upward, any_assignable, any_bank_program, any_bend, any_note_off, any_note_on, any_plain}
use Rattle.lift.proofs.LiftLaws.{any_poly_pressure, any_pressure, any_program, any_registered, lift-marks, lift-sound}
use Rattle.lift.proofs.LiftLaws.{own-control}
use Rattle.lower.specs.Lower.{lower, sounding}

-- messages into one memory, in a row: the memory after, and all that is sent
pub record LiftedAll : Type 0 where
  pub after : Memory
  pub sends : List Midi2

abbrev pub as_list : Option Midi2 → List Midi2
as_list none = []
as_list (some m) = m ∷ []

abbrev pub lift_all : Memory → List Midi1 → LiftedAll
lift_all r [] = record { after = r; sends = [] }
lift_all r (m ∷ ms) =
    let rest = lift_all (lift r m).after ms in
    record { after = rest.after; sends = as_list (lift r m).sends ++ rest.sends }

pub lift_all-sound : (ms : List Midi1) (r : Memory) → All Fits1 ms → sound r ≡ true → sound (lift_all r ms).after ≡ true
lift_all-sound [] r f h = h
lift_all-sound (m ∷ ms) r f h = lift_all-sound ms (lift r m).after f.1 (lift-sound r h m f.0)

-- going down, what going up sent has a form, of messages that fit
pub lower-fits : {coarse : Bool} (m : Midi2) → Upward coarse m → All Fits1 (lower m)
unfolding lower sounding
lower-fits _ (any_registered hb hi n x z) = rw n (omega arith)
lower-fits _ (any_assignable hb hi x z) = omega arith
lower-fits _ (any_note_off h x) = omega arith
lower-fits _ (any_note_on {n} {v} h x z) = rw (ne_eqb (down 16 7 v) 0 z) (omega arith)
lower-fits _ (any_poly_pressure h x) = omega arith
lower-fits _ (any_plain h x e) = rw e (omega arith)
lower-fits _ (any_program h) = omega arith
lower-fits _ (any_bank_program hp hx hy) = omega arith
lower-fits _ (any_pressure x) = omega arith
lower-fits _ (any_bend x) = omega arith

-- no message of a row changes the mark
pub lift_all-marks : (ms : List Midi1) (r : Memory) → (lift_all r ms).after.coarse ≡ r.coarse
lift_all-marks [] r = refl
lift_all-marks (m ∷ ms) r = lift_all-marks ms (lift r m).after ∙ lift-marks r m

-- the halves of a value of 14 bits are the value, and a value without a low half is its high half
halves : (x : ℕ) → x < 2 ^ 14 → (x / 2 ^ 7 * 2 ^ 7 + x % 2 ^ 7) % 2 ^ 14 ≡ x
halves x h = rw (div-add-mod' x (2 ^ 7)) (omega (arith, h))

high_half : (x : ℕ) → x < 2 ^ 14 → x % 2 ^ 7 ≡ 0 → (x / 2 ^ 7 * 2 ^ 7 + 0) % 2 ^ 14 ≡ x
high_half x h z = rw z at (halves x h)

-- Into a memory with no bank waiting, the messages that going down sends for m give m back, and leave no bank waiting: on
-- a marked channel by data high alone, and on others by data low.
pub taken_back : (r : Memory) (m : Midi2) → banked2 r ≡ no_bank → Upward (marked r) m
    → ((lift_all r (lower m)).sends ≡ m ∷ []) × (banked2 (lift_all r (lower m)).after ≡ no_bank)
unfolding lower lift sounding controlled control_of with_data_high data_high data_low addressed2 banked2 kept
taken_back r _ w (any_registered {b} {i} {v} hb hi n h z) =
    let x = down 32 14 v in
    let nb = ne_eqb b missing (λ e. omega arith) in
    let ni = ne_eqb i missing (λ e. omega arith) in
    rw n (by_bool (eqb r.coarse unmarked)
    (λ e. simp (
      with_data_high,
      data_high,
      data_low,
      addressed2,
      kept,
      e,
      n,
      nb,
      ni,
      ne_eqb (x / 2 ^ 7) missing (λ f. omega arith),
      halves x h.0,
      h.1,
    ) (refl, w))
    (λ e. simp (with_data_high, data_high, data_low, addressed2, kept, e, n, nb, ni, high_half x h.0 (z (rw e)), h.1)
    (refl, w)))
taken_back r _ w (any_assignable {b} {i} {v} hb hi h z) =
    let x = down 32 14 v in
    let nb = ne_eqb b missing (λ e. omega arith) in
    let ni = ne_eqb i missing (λ e. omega arith) in
    by_bool (eqb r.coarse unmarked)
    (λ e. simp (
      with_data_high,
      data_high,
      data_low,
      addressed2,
      kept,
      e,
      nb,
      ni,
      ne_eqb (x / 2 ^ 7) missing (λ f. omega arith),
      halves x h.0,
      h.1,
    ) (refl, w))
    (λ e. simp (with_data_high, data_high, data_low, addressed2, kept, e, nb, ni, high_half x h.0 (z (rw e)), h.1)
    (refl, w))
taken_back r _ w (any_note_off h x) = (rw x.1, w)
taken_back r _ w (any_note_on {n} {v} h x z) =
    rw (ne_eqb (down 16 7 v) 0 z) (rw (ne_eqb (down 16 7 v) 0 z, x.1) (refl, w))
taken_back r _ w (any_poly_pressure h x) = (rw x.1, w)
taken_back r _ w (any_plain {i} {v} h x e) =
    let y = own-control r i (down 32 7 v) e in
    rw e (rw (y.0, x.1), y.1 ∙ w)
taken_back r _ w (any_program h) = (rw w, refl)
taken_back r _ w (any_bank_program {p} {h} {l} hp hh hl) =
    (simp (banked2, ne_eqb h missing (λ e. omega arith), ne_eqb l missing (λ e. omega arith)), refl)
taken_back r _ w (any_pressure x) = (rw x.1, w)
taken_back r _ w (any_bend x) = (rw x.1, w)
