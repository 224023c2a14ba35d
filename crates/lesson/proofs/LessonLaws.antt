-- The run over known records is the lesson: its table is sound, so it is the run that asks, and its answer is one of
-- three. Assumes nothing.
use Prim.Native.Nat.{ℕ}
use mathlib.Core.Path.{◌≡◌, refl, sym, ap}
use mathlib.Core.List.{List}
use lib.ListN.{length}
use Rattle.ground.specs.Store.{at_start}
use Rattle.stream.specs.Report.{counting}
use Rattle.mark.specs.Lesson.{marked_table}
use Rattle.mark.proofs.LessonLaws.{marked_empty}
use Rattle.table.specs.Job.{asked, asked_report, known_run, table_step}
use Rattle.table.specs.Table.{run_up}
use Rattle.table.proofs.KeptLaws.{marked-sound}
use Rattle.table.proofs.KnownLaws.{Good, known-run, three-answers}
use Rattle.lesson.specs.Lesson.{answer_number, ended_by, lesson, lesson_report}

abbrev OneOfThree : ℕ → Type 0
OneOfThree a = answer_number (ended_by a) ≡ a

good : (coarse : List ℕ) → Good (marked_table coarse)
good coarse = let m = marked_empty coarse in (marked-sound (marked_table coarse) m, m.whole)

pub numbered : (room : ℕ) (ws coarse : List ℕ) → OneOfThree (run_up room (marked_table coarse) ws).answer
unfolding answer_number ended_by
numbered room ws coarse = three-answers OneOfThree refl refl refl room (marked_table coarse) ws (good coarse)

module _ (ws coarse out : List ℕ) where
  same : asked known_run (length out) (marked_table coarse) ws ≡ run_up (length out) (marked_table coarse) ws
  unfolding asked table_step
  same = known-run (length out) (marked_table coarse) ws (good coarse)

  pub told : asked_report known_run ws (asked known_run (length out) (marked_table coarse) ws)
      ≡ lesson_report (lesson (length out) coarse ws)
  unfolding lesson
  told =
      let r = run_up (length out) (marked_table coarse) ws in
      rw same (ap (λ (a : ℕ). counting a r.read (length r.sends)) (sym (numbered (length out) ws coarse)))

  pub written_out : at_start (asked known_run (length out) (marked_table coarse) ws).sends out
      ≡ at_start (lesson (length out) coarse ws).sends out
  unfolding lesson
  written_out = rw same
