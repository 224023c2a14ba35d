-- The lesson run (RULES 4.2; 02 M-111), against the run of demand 2.
use Rattle.std.specs.Prelude.{ℕ, ◌≡◌, List}
use Rattle.mark.specs.Lesson.{marked_table}
use Rattle.table.specs.Table.{run_up}
use Rattle.lesson.specs.Lesson.{answer_number, lesson}
use Rattle.claims.specs.RoundTrip.{Returns}
use Rattle.claims.specs.Soundness.{SoundFrom}

pub record Lessons : Type 0 where
  -- a lesson answers, reads and sends what the run up from its table does: so that run has no other answer than these
  pub answers : (room : ℕ) (coarse s : List ℕ)
      → answer_number (lesson room coarse s).answer ≡ (run_up room (marked_table coarse) s).answer
  pub reads : (room : ℕ) (coarse s : List ℕ) → (lesson room coarse s).read ≡ (run_up room (marked_table coarse) s).read
  pub sends : (room : ℕ) (coarse s : List ℕ) → (lesson room coarse s).sends ≡ (run_up room (marked_table coarse) s).sends
  -- every record of its table stays sound after every packet, and its words return
  pub sounds : (coarse : List ℕ) → SoundFrom (marked_table coarse)
  pub returns : (coarse : List ℕ) → Returns run_up (marked_table coarse)
