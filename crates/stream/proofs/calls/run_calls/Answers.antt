-- `run_calls` is the run: one more call keeps what was done the start of the whole run, and a call that reads nothing,
-- like the end of the words, ends it.
use Rattle.std.proofs.Common.{◌∙◌}
use Rattle.stream.proofs.CallsLoop.{one_more}
use Rattle.stream.proofs.RunLoop.{finish, reports}
use Rattle.stream.proofs.calls.run_calls.Goals as goal

pub returns-then-done-read : goal.returns-then-done-read
returns-then-done-read g c =
    let l = c.loop-read in
    let numbers = g.C.Calls.numbers in
    let e = rw c.report.ensures at c.call-done.ensures in
    let d = (one_more g.met.C.Calls.own_packet c.args.words.now c.args.calls.now (numbers c.args.out.now) l.calls
    (numbers l.out) l.read l.written l.invariant c.loop-read-test.true c.call-done.result c.call-done.new.self
    (numbers c.call-done.new.out) e.report e.state e.output).1 c.if-done-read.true in
    record {
      report = c.report-then-done-read.ensures ∙ rw c.if-done-read.true at (reports d);
      state = d.leaves;
      output = d.holds;
      inside = rw c.report-then-done-read.ensures l.invariant.read;
    }

pub loop-read-preserved : goal.loop-read-preserved
loop-read-preserved g c =
    let l = c.loop-read in
    let numbers = g.C.Calls.numbers in
    let e = rw c.report.ensures at c.call-done.ensures in
    ((one_more g.met.C.Calls.own_packet c.args.words.now c.args.calls.now (numbers c.args.out.now) l.calls
    (numbers l.out) l.read l.written l.invariant c.loop-read-test.true c.call-done.result c.call-done.new.self
    (numbers c.call-done.new.out) e.report e.state e.output).0 c.if-done-read.false).0

pub returns : goal.returns
returns g c =
    let l = c.loop-read in
    let own = g.met.C.Calls.own_packet in
    let numbers = g.C.Calls.numbers in
    let d = finish g.C.Calls.step own.alone own.whole c.args.calls.now c.args.words.now (numbers c.args.out.now) l.calls
    (numbers l.out) l.read l.written l.invariant c.loop-read-test.false in
    record {
      report = c.report-2.ensures ∙ reports d;
      state = d.leaves;
      output = d.holds;
      inside = rw c.report-2.ensures l.invariant.read;
    }
