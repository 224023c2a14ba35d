-- `gather::put_line`: a finished chain has the line of its bytes, a dropped one that of its answer, and no other call
-- has one.
use Rattle.std.proofs.Common.{◌≡◌, ◌+◌, ◌-◌, arith}
use Rattle.text.proofs.LineLaws.{none-put}
use Rattle.gather.proofs.LineLaws.{dropped_line_lem, finished-line, no_line}
use Rattle.gather.proofs.put_line.Goals as goal

pub returns-then-one-eq-SENT : goal.returns-then-one-eq-SENT
returns-then-one-eq-SENT c =
    let a = c.args in
    let r = a.turn.report in
    let n : r.start + r.length - r.start ≡ r.length = omega arith in
    let e = rw n at c.message.ensures in
    rw (finished-line a.turn.dropped r a.buffer.now c.if-one-eq-SENT.true) (record { place = e.place; text = e.text })

pub returns-then-turn : goal.returns-then-turn
returns-then-turn c =
    let a = c.args in
    let e = c.dropped.ensures in
    rw (dropped_line_lem a.turn.dropped a.turn.report a.buffer.now c.if-one-eq-SENT.false c.if-turn.true)
    (record { place = e.place; text = e.text })

pub returns : goal.returns
returns c =
    let a = c.args in
    let e = none-put a.text.now a.to in
    rw (no_line a.turn.dropped a.turn.report a.buffer.now c.if-one-eq-SENT.false c.if-turn.false)
    (record { place = e.0; text = e.1 })
