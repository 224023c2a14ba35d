-- `table::go_through` meets its contract: each turn is one more call, and after the last all is done. Assumes nothing.
use Rattle.std.proofs.Common.{◌≡◌, length, ap, refl, ◌∙◌, arith}
use Rattle.table.specs.Ended.{ended_by}
use Rattle.table.proofs.Turns.{ended, opens, steps}
use Rattle.table.proofs.go_through.Goals as goal

pub loop-p-init : goal.loop-p-init
loop-p-init c =
    let a = c.args in
    let s = c.start-p in
    (opens a.words.now a.job a.table.now a.out.now s.result s.ensures.report s.ensures.more, refl)

pub loop-p-preserved : goal.loop-p-preserved
loop-p-preserved c =
    let a = c.args in
    let l = c.loop-p in
    let d = c.one-done in
    let q = c.onward-p in
    let long : length d.new.table ≡ length l.table = omega arith in
    let s = steps a.words.now a.job a.table.now a.out.now l.p l.table l.out c.loop-p-test.true l.invariant.0
    l.invariant.1 d.result q.result d.new.table d.new.out d.ensures.report d.ensures.table d.ensures.output long
    q.ensures.report q.ensures.more in
    (s.0, long ∙ l.invariant.1)

pub loop-p-smaller : goal.loop-p-smaller
loop-p-smaller c =
    let a = c.args in
    let l = c.loop-p in
    let d = c.one-done in
    let q = c.onward-p in
    let long : length d.new.table ≡ length l.table = omega arith in
    let s = steps a.words.now a.job a.table.now a.out.now l.p l.table l.out c.loop-p-test.true l.invariant.0
    l.invariant.1 d.result q.result d.new.table d.new.out d.ensures.report d.ensures.table d.ensures.output long
    q.ensures.report q.ensures.more in
    s.1

pub returns : goal.returns
returns c =
    let a = c.args in
    let l = c.loop-p in
    let z = ended a.words.now a.job a.table.now a.out.now l.p l.table l.out c.loop-p-test.false l.invariant.0 in
    record { report = c.from.ensures ∙ ap ended_by z.1; table = z.0.leaves; output = z.0.holds }
