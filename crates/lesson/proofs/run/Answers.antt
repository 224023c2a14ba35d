-- `lesson::run` meets its contract: its table is the one with the marks, and the run over it is the lesson. Assumes
-- nothing.
use mathlib.Core.Path.{◌∙◌}
use Rattle.lesson.proofs.LessonLaws.{told, written_out}
use Rattle.lesson.proofs.run.Goals as goal

pub returns : goal.returns
returns c =
    let f = c.run_from-ran.ensures in
    let k = c.known_run.ensures in
    let m = c.marked_table-records.ensures.table in
    let a = c.args in record {
      report = f.report ∙ rw (k, m) (told a.words.now a.coarse.now a.out.now);
      output = f.output ∙ rw (k, m) (written_out a.words.now a.coarse.now a.out.now);
    }
