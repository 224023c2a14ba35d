-- `table::run_told` meets its contract: a long run asks all records, and a short one none. Assumes nothing.
use Rattle.std.proofs.Common.{◌∙◌}
use borrow.Author.Tests.{le-leb, lt-leb}
use Rattle.table.specs.Job.{long_run}
use Rattle.table.proofs.Asking.{told}
use Rattle.table.proofs.run_told.Goals as goal
use Rattle.table.proofs.run_told.Goals.{then-words-ge-LONG_RUN, else-words-ge-LONG_RUN}

pub returns : goal.returns
returns c =
    let words = c.args.words in
    rw (c.run.ensures, c.open_rule.ensures) (told words c.args.table.now _ (elim c.if-words-ge-LONG_RUN.branch [
      | then-words-ge-LONG_RUN w ↦
          rw (le-leb long_run words w.if-words-ge-LONG_RUN.true) (w.result-is ∙ w.are_sound.ensures)
      | else-words-ge-LONG_RUN w ↦
          rw (lt-leb long_run words w.if-words-ge-LONG_RUN.false)
          (w.result-is ∙ lt-leb long_run words w.if-words-ge-LONG_RUN.false)
    ]))
