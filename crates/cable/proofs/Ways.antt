-- The ways of a call: whichever way its tests go, it sends at most two words, and a byte that it does not read is read
-- by the next. Assumes nothing.
use mathlib.Core.Path.{◌≡◌, refl}
use mathlib.Core.Bool.{Bool, true, false}
use mathlib.Core.List.{List, [], ◌∷◌}
use Prim.Native.Nat.{ℕ, ◌≤◌, ◌<◌}
use native.Mathlib.Omega.{arith}
use lib.Dec.{eqb}
use lib.ListN.{length}
use borrow.Author.Tests.{eqb-false, le-ltb, leb-false, lt-leb, ltb-false}
use Rattle.stream.specs.Answers.{no_room}
use Rattle.cable.specs.declared.Cable.{Cable}
use Rattle.cable.specs.State.{idle, pick}
use Rattle.cable.specs.Hearing.{Call, byte_in, data_in, end_in, exclusive_in, first_in, message_in, real_time_in}
use Rattle.cable.specs.Hearing.{status_in}

-- whichever way a test goes, and the same with the way of the test at hand
pub either : {A : Type 0} (P : A → Type 0) (t : Bool) {x y : A} → P x → P y → P (pick t x y)
unfolding pick
either P true p q = p
either P false p q = q

pub told : {A : Type 0} (P : A → Type 0) (t : Bool) {x y : A} → (t ≡ true → P x) → (t ≡ false → P y) → P (pick t x y)
unfolding pick
told P true p q = p refl
told P false p q = q refl

pub pick_true : {A : Type 0} (x y : A) → pick true x y ≡ x
unfolding pick
pick_true x y = refl

pub pick-false : {A : Type 0} (x y : A) → pick false x y ≡ y
unfolding pick
pick-false x y = refl

-- what holds of a call with one of the answers that a byte has: at most two words
pub record Few (c : Call) : Type 0 where
  pub most : length c.sends ≤ 2
  pub fits : eqb c.answer no_room ≡ false

none : {a r : ℕ} {s : Cable} → eqb a no_room ≡ false → Few (record { answer = a; read = r; sends = []; after = s })
none e = record { most = omega arith; fits = e }

one : {a r w : ℕ} {s : Cable} → eqb a no_room ≡ false → Few (record { answer = a; read = r; sends = w ∷ []; after = s })
one e = record { most = omega arith; fits = e }

two : {a r w v : ℕ} {s : Cable} → eqb a no_room ≡ false
    → Few (record { answer = a; read = r; sends = w ∷ v ∷ []; after = s })
two e = record { most = omega arith; fits = e }

few-data : (s : Cable) (g b : ℕ) → Few (data_in s g b)
unfolding data_in exclusive_in message_in first_in
few-data s g b =
    either Few _ (either Few _ (none refl) (two refl))
    (either Few _ (none refl) (either Few _ (either Few _ (none refl) (one refl)) (one refl)))

pub few : (s : Cable) (g b : ℕ) → Few (byte_in s g b)
unfolding byte_in real_time_in status_in end_in
few s g b =
    either Few _ (either Few _ (none refl) (one refl))
    (either Few _ (few-data s g b)
    (either Few _ (either Few _ (none refl) (either Few _ (one refl) (either Few _ (none refl) (none refl))))
    (either Few _ (either Few _ (two refl) (two refl)) (none refl))))

-- a status byte below F8 is read where nothing is open
record Reads (c : Call) : Type 0 where
  pub one : c.read ≡ 1

idle-reads : (g r b : ℕ) → 0x80 ≤ b → b < 0xF8 → Reads (byte_in (idle r) g b)
unfolding byte_in status_in
idle-reads g r b lo hi =
    rw (lt-leb 0xF8 b hi, pick-false, le-ltb b 0x80 lo, pick-false, pick_true)
    (either Reads _ (record { one = refl })
    (either Reads _ (record { one = refl }) (either Reads _ (record { one = refl }) (record { one = refl }))))

-- A call reads its byte; or it does not, and then something was open and is no longer, and the next call reads it.
pub record Next (s : Cable) (g b : ℕ) (c : Call) : Type 0 where
  pub most : c.read ≤ 1
  pub open_before : c.read ≡ 0 → s.status ≡ 0 → ⊥
  pub shut_after : c.read ≡ 0 → c.after.status ≡ 0
  pub next : c.read ≡ 0 → (byte_in c.after g b).read ≡ 1

module _ (s : Cable) (g b : ℕ) where
  reads : {c : Call} → c.read ≡ 1 → Next s g b c
  reads r =
      record {
        most = omega arith;
        open_before = λ e _. omega arith;
        shut_after = λ e. absurd (omega arith);
        next = λ e. absurd (omega arith);
      }

  leaves : {a r : ℕ} {ws : List ℕ} → eqb s.status 0 ≡ false → 0x80 ≤ b → b < 0xF8
      → Next s g b (record { answer = a; read = 0; sends = ws; after = idle r })
  leaves {a} {r} h lo hi =
      record {
        most = omega arith;
        open_before = λ _. eqb-false s.status 0 h;
        shut_after = λ _. refl;
        next = λ _. (idle-reads g r b lo hi).one;
      }

  next-data : Next s g b (data_in s g b)
  unfolding data_in exclusive_in message_in first_in
  next-data =
      let P = Next s g b in
      either P _ (either P _ (reads refl) (reads refl))
      (either P _ (reads refl) (either P _ (either P _ (reads refl) (reads refl)) (reads refl)))

  pub next-in : Next s g b (byte_in s g b)
  unfolding byte_in real_time_in status_in end_in
  next-in =
      let P = Next s g b in
      told P _ (λ _. either P _ (reads refl) (reads refl)) (λ hi.
      told P _ (λ _. next-data) (λ lo.
      told P _
      (λ _. either P _ (reads refl) (either P _ (reads refl) (either P _ (reads refl) (reads refl))))
      (λ e.
      either P _
      (either P _ (reads refl) (leaves e (ltb-false b 0x80 lo) (leb-false 0xF8 b hi)))
      (leaves e (ltb-false b 0x80 lo) (leb-false 0xF8 b hi)))))
