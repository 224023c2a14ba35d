-- `quernbrae::quernbrae_run_collect` meets its contract: it begins where the run begins, a turn is a call more, and where
-- it is done all is. Assumes nothing.
use Rattle.std.proofs.Common.{◌≡◌, ◌∙◌, length, refl, arith}
use Rattle.chains.proofs.RunLaws.{begins, turned}
use Rattle.quernbrae.proofs.messages.quernbrae_run_collect.Goals as goal

pub loop-progress-init : goal.loop-progress-init
loop-progress-init c =
    let a = c.args in
    (rw c.start-progress.ensures (begins a.chains.now a.buffer.now a.words.now), refl)

pub loop-progress-preserved : goal.loop-progress-preserved
loop-progress-preserved c =
    let a = c.args in
    let l = c.loop-progress in
    let o = c.one-progress in
    let st = rw c.in-Continue.is at l.invariant.0 in
    let z = turned a.chains.now a.buffer.now a.words.now _ l.chains l.buffer st in
    let long : length o.new.chains ≡ length l.chains = omega arith in
    (rw (o.ensures.progress, o.ensures.chains, o.ensures.buffer) z.0, long ∙ l.invariant.1)

pub loop-progress-smaller : goal.loop-progress-smaller
loop-progress-smaller c =
    let a = c.args in
    let l = c.loop-progress in
    let o = c.one-progress in
    let st = rw c.in-Continue.is at l.invariant.0 in
    let z = turned a.chains.now a.buffer.now a.words.now _ l.chains l.buffer st in
    rw (o.ensures.progress, c.in-Continue.is) z.1
