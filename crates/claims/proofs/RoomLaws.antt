-- The room of the output. Assumes nothing.
use Prim.Native.Nat.{ℕ, ◌*◌, ◌<◌, ◌≤◌}
use mathlib.Core.Path.{◌≡◌, sym, ap, ◌∙◌}
use mathlib.Core.Bool.{false}
use mathlib.Core.List.{List}
use native.Mathlib.Omega.{arith}
use lib.ListN.{length}
use lib.Dec.{eqb, leb}
use borrow.Author.Tests.{eqb-false, eqb-true, leb-false, leb-true}
use Rattle.ground.proofs.Cases.{by_bool}
use Rattle.ump.specs.Packet.{cut}
use Rattle.stream.specs.Answers.{no_room}
use Rattle.stream.specs.Call.{Call, sent_of, within}
use Rattle.stream.specs.Run.{Ran, run}
use Rattle.stream.proofs.RunLaws.{Does, ample, bounded, cut-size, roomy, run-does}
use Rattle.screen.specs.declared.Rule.{Rule}
use Rattle.screen.specs.Screen.{open_rule}
use Rattle.voice.specs.Packet.{call_down_by}
use Rattle.table.specs.Table.{table_by}
use Rattle.claims.specs.Room.{Room, Roomy}
use Rattle.claims.proofs.StepLaws.{twice-down, down-stops, twice-up, up-stops}

abbrev NotNine : ℕ → Type 0
NotNine a = a ≡ no_room → ⊥

-- of any step that itself never stops for want of room, and sends at most two words for each of its packet
module _
    {T : Type 0}
    (step : T → List ℕ → Call T)
    (stops : (t : T) (p : List ℕ) → Does (λ _. Unit {0}) NotNine (step t p))
    (few : (t : T) (p : List ℕ) → length (sent_of (step t p)) ≤ 2 * length p)
  where
    short : (room : ℕ) (t : T) (ps : List (List ℕ)) → (run (within step) (room, t) ps).answer ≡ no_room
        → room < length (run step t ps).sends
    short room t ps e =
        by_bool (leb (length (run step t ps).sends) room)
        (λ h.
        let same = ample step ps t room (leb-true (length (run step t ps).sends) room h) in
        absurd ((run-does step (λ _. Unit {0}) NotNine (λ e. omega arith) (λ u p _. stops u p) ps t tt).1
        (sym (ap (λ (r : Ran (ℕ × T)). r.answer) same) ∙ e)))
        (leb-false (length (run step t ps).sends) room)

    answered : (room : ℕ) (t : T) (ps : List (List ℕ)) → room < length (run step t ps).sends
        → (run (within step) (room, t) ps).answer ≡ no_room
    answered room t ps h =
        let a = (run (within step) (room, t) ps).answer in
        by_bool (eqb a no_room) (eqb-true a no_room)
        (λ e. absurd (omega (arith, roomy step ps t room (eqb-false a no_room e))))

    all-roomy : Roomy step
    all-roomy =
        record {
          short = λ room t s. (short room t (cut s), answered room t (cut s));
          all = λ room t s h. ample step (cut s) t room h;
          twice = λ room t s h.
              let l : length (run step t (cut s)).sends ≤ 2 * length s =
              rw cut-size at (bounded step 2 few (cut s) t) in
              (λ e. omega (arith, short room t (cut s) e), ample step (cut s) t room (omega arith));
        }

-- and so of a call up under any rule
pub up-roomy : (rule : Rule) → Roomy (table_by rule false)
up-roomy rule =
    all-roomy (table_by rule false) (up-stops NotNine (λ e. omega arith) (λ e. omega arith) (λ e. omega arith) rule)
    (twice-up rule)

-- and down
pub down-roomy : (rule : Rule) → Roomy (call_down_by rule)
down-roomy rule = all-roomy (call_down_by rule) (down-stops NotNine (λ e. omega arith) rule) (twice-down rule)

pub proved-room : Room
proved-room = record { up = up-roomy open_rule; down = down-roomy open_rule }
