-- All records asked before a run: that the run which `run_told` tells of is the run that asks at each voice message;
-- and what is asked for in the beginners' room. Assumes nothing.
use Prim.Native.Nat.{ℕ, zero, suc}
use Rattle.std.specs.List.{list_all}
use mathlib.Core.Path.{◌≡◌, refl, ap, ◌∙◌}
use mathlib.Core.Bool.{Bool, true, false, ◌&&◌}
use mathlib.Core.List.{List, [], ◌∷◌}
use lib.Dec.{eqb, leb}
use lib.ListN.{length}
use borrow.Author.Tests.{eqb-true}
use Rattle.ground.proofs.Bools.{and_left, and_right}
use Rattle.ground.proofs.Cases.{by_bool}
use Rattle.memory.proofs.Sound.{proved-stays-sound}
use Rattle.screen.specs.Screen.{open_rule}
use Rattle.channel.specs.declared.Record.{Record}
use Rattle.channel.specs.Record.{sound, whole_table}
use Rattle.table.specs.Table.{SoundTable, beginners_one_up, beginners_run_up, run_by, run_up, table_by}
use Rattle.table.specs.Job.{all_sound, asked, beginners_call, beginners_run, knows, long_run, run_told, table_step}
use Rattle.table.proofs.KnownLaws.{known-run}

-- all records of a table are asked, one after another
all-asked : (t : List Record) → list_all sound t ≡ all_sound t
unfolding all_sound
all-asked [] = refl
all-asked (r ∷ t) = ap (λ (b : Bool). sound r && b) (all-asked t)

-- what was found is what the run is told
pub told : (words : ℕ) (t : List Record) (k : Bool) → k ≡ (leb long_run words && list_all sound t)
    → record { once = false; known = k; rule = open_rule } ≡ run_told words t
unfolding run_told
told words t k e =
    ap (λ (b : Bool). record { once = false; known = b; rule = open_rule })
    (e ∙ ap (λ (b : Bool). leb long_run words && b) (all-asked t))

all_sound_lem : (t : List Record) → all_sound t ≡ true → SoundTable t
unfolding all_sound
all_sound_lem [] e i = proved-stays-sound.at_start_lem
all_sound_lem (r ∷ t) e zero = and_left (sound r) (all_sound t) e
all_sound_lem (r ∷ t) e (suc i) = all_sound_lem t (and_right (sound r) (all_sound t) e) i

-- a run over known records is the run that asks, over a table of any length
known-asked : (room : ℕ) (t : List Record) (s : List ℕ) → SoundTable t
    → run_by (table_by open_rule true) room t s ≡ run_up room t s
unfolding run_up
known-asked room t s h =
    by_bool (eqb (length t) whole_table) (λ e. known-run room t s (h, eqb-true (length t) whole_table e)) (λ e. rw e)

pub told-once : (words : ℕ) (t : List Record) → (run_told words t).once ≡ false
unfolding run_told
told-once words t = refl

pub told-run : (words room : ℕ) (t : List Record) (s : List ℕ) → asked (run_told words t) room t s ≡ run_up room t s
unfolding asked table_step run_told run_up
told-run words room t s =
    by_bool (knows words t)
    (λ e. rw e (known-asked room t s (all_sound_lem t (and_right (leb long_run words) (all_sound t) e)))) (λ e. rw e)

-- a call and a run in the beginners' room are those of its rule
pub beginners-asked : (room : ℕ) (t : List Record) (s : List ℕ)
    → (asked beginners_call room t s ≡ beginners_one_up room t s)
    × (asked beginners_run room t s ≡ beginners_run_up room t s)
unfolding asked table_step beginners_one_up beginners_run_up
beginners-asked room t s = (refl, refl)
