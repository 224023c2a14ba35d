-- The lesson run (RULES 4.2; 02 M-111): a run up over a table of its own, and its three answers.
use Rattle.std.specs.Prelude.{ℕ, cond, List, eqb, length}
use Rattle.stream.specs.declared.Done.{Done}
use Rattle.stream.specs.Answers.{cut_packet, no_room, sent}
use Rattle.stream.specs.Report.{counting}
use Rattle.mark.specs.Lesson.{marked_table}
use Rattle.table.specs.Table.{run_up}

-- what a lesson can end with: all packets were treated, the last is cut, or the output is full
pub data LessonAnswer : Type 0 where
  finished cut full : LessonAnswer

-- and the number of each
unfoldable pub answer_number : LessonAnswer → ℕ
answer_number finished = sent
answer_number cut = cut_packet
answer_number full = no_room

-- what a run ended with, by its number
unfoldable pub ended_by : ℕ → LessonAnswer
ended_by a = cond (eqb a cut_packet) cut (cond (eqb a no_room) full finished)

pub record Lesson : Type 0 where
  pub answer : LessonAnswer
  pub read : ℕ
  pub sends : List ℕ

-- The run of demand 2 over the words s, from the table with the marks of a list, in an output of so many words.
unfoldable pub lesson : ℕ → List ℕ → List ℕ → Lesson
lesson room coarse s =
    let r = run_up room (marked_table coarse) s in
    record { answer = ended_by r.answer; read = r.read; sends = r.sends }

-- what is reported of it
abbrev pub lesson_report : Lesson → Done
lesson_report l = counting (answer_number l.answer) l.read (length l.sends)
