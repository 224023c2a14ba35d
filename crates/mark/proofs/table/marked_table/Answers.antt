-- `mark::table::marked_table` meets its contract. The loop's invariant: the records below a place are those of the
-- definition. Assumes nothing.
use mathlib.Core.Path.{refl, ◌∙◌}
use native.Mathlib.Omega.{arith}
use lib.ListN.{length-set}
use Rattle.mark.proofs.LessonLaws.{below_all, below_more, below_none}
use Rattle.mark.proofs.table.marked_table.Goals as goal

pub loop-place-init : goal.loop-place-init
loop-place-init c = (refl, below_none _)

pub loop-place-preserved : goal.loop-place-preserved
loop-place-preserved c =
    let l = c.loop-place in (
      length-set l.records l.place c.with_mark.result ∙ l.invariant.0,
      below_more c.args.coarse.now l.records l.place _ (omega (arith, c.loop-place-test.true, l.invariant.0))
          (c.with_mark.ensures ∙ rw (c.mark_at.ensures.mark, c.empty-empty.ensures)) l.invariant.1,
    )

pub returns : goal.returns
returns c =
    let l = c.loop-place in
    record {
      table = below_all _ l.records l.place l.invariant.0
          (omega (arith, c.loop-place-test.false, l.auto.place-end)) l.invariant.1;
    }
