-- `gather::gather_some` meets its contract: one more call keeps what was done the start of the whole run, and a call
-- that is refused, like the end of the words, ends it.
use mathlib.Core.Path.{◌∙◌}
use Rattle.gather.specs.Gather.{held_in}
use Rattle.gather.proofs.GatherLoop.{finished, one_more}
use Rattle.gather.proofs.gather_some.Goals as goal

pub returns-then-done-read : goal.returns-then-done-read
returns-then-done-read c =
    let a = c.args in
    let l = c.loop-read in
    let o = c.gather_one-done in
    let e = o.ensures in
    let u = one_more (held_in a.collector.now a.buffer.now) a.words.now a.text.now
    (held_in l.collector l.buffer) l.text l.read l.written l.invariant c.loop-read-test.true
    o.result (held_in o.new.collector o.new.buffer) o.new.text
    (rw c.report.ensures at e.report) (rw c.report.ensures at e.held) (rw c.report.ensures at e.text) in
    let z = u.1 c.if-done-read.true in
    record { report = c.report-then-done-read.ensures ∙ z.0; held = z.1; lines = z.2 }

pub loop-read-preserved : goal.loop-read-preserved
loop-read-preserved c =
    let a = c.args in
    let l = c.loop-read in
    let o = c.gather_one-done in
    let e = o.ensures in
    let u = one_more (held_in a.collector.now a.buffer.now) a.words.now a.text.now
    (held_in l.collector l.buffer) l.text l.read l.written l.invariant c.loop-read-test.true
    o.result (held_in o.new.collector o.new.buffer) o.new.text
    (rw c.report.ensures at e.report) (rw c.report.ensures at e.held) (rw c.report.ensures at e.text) in
    (u.0 c.if-done-read.false).0

pub returns : goal.returns
returns c =
    let a = c.args in
    let l = c.loop-read in
    let z = finished (held_in a.collector.now a.buffer.now) a.words.now a.text.now
    (held_in l.collector l.buffer) l.text l.read l.written l.invariant c.loop-read-test.false in
    record { report = c.report-2.ensures ∙ z.0; held = z.1; lines = z.2 }
