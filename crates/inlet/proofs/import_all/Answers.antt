-- `inlet::import_all`: what was done, and then the run from here, is the whole run. Twice the bytes left, and one more
-- where something is open, is less after each call.
use Prim.Native.Nat.{◌+◌, ◌≤◌, ◌<◌, ◌^◌}
use native.Mathlib.Omega.{arith}
use mathlib.Core.Path.{◌∙◌}
use lib.ListN.{length}
use Rattle.cable.specs.Hearing.{told}
use Rattle.cable.specs.Receiver.{cable_of, heard_of}
use Rattle.inlet.proofs.RunLaws.{end, stops, turn}
use Rattle.inlet.proofs.import_all.Goals as goal

pub returns-in_default : goal.returns-in_default
returns-in_default c =
    let l = c.loop-read in
    let a = c.args in
    let over = stops a.group a.cable a.bytes.now a.out.now (cable_of l.state) l.out l.read l.written l.invariant
    c.loop-read-test.true (told (heard_of c.receive-heard.result)) c.receive-heard.ensures c.put.new.out
    (rw c.in_default.is at c.put.ensures) in
    record { report = c.report.ensures ∙ over.0; output = over.1 }

pub overflow_add-read : goal.overflow_add-read
overflow_add-read c =
    let l = c.loop-read in
    let a = c.args in
    let more = turn a.group a.cable a.bytes.now a.out.now (cable_of l.state) l.out l.read l.written l.invariant
    c.loop-read-test.true (told (heard_of c.receive-heard.result)) c.receive-heard.ensures c.put.new.out
    c.in-Some.end (rw c.in-Some.is at c.put.ensures) in
    let bound : l.read + c.receive-heard.result.read ≤ length a.bytes.now = more.0.read in
    let cap : length a.bytes.now < 2 ^ 64 = omega (arith, c.well_formed) in
    let fits : l.read + c.receive-heard.result.read < 2 ^ 64 = omega arith in
    record { fits = fits }

pub loop-read-smaller : goal.loop-read-smaller
loop-read-smaller c =
    let l = c.loop-read in
    let a = c.args in
    (turn a.group a.cable a.bytes.now a.out.now (cable_of l.state) l.out l.read l.written l.invariant
    c.loop-read-test.true (told (heard_of c.receive-heard.result)) c.receive-heard.ensures c.put.new.out
    c.in-Some.end (rw c.in-Some.is at c.put.ensures)).1

pub loop-read-preserved : goal.loop-read-preserved
loop-read-preserved c =
    let l = c.loop-read in
    let a = c.args in
    (turn a.group a.cable a.bytes.now a.out.now (cable_of l.state) l.out l.read l.written l.invariant
    c.loop-read-test.true (told (heard_of c.receive-heard.result)) c.receive-heard.ensures c.put.new.out
    c.in-Some.end (rw c.in-Some.is at c.put.ensures)).0

pub returns : goal.returns
returns c =
    let l = c.loop-read in
    let a = c.args in
    let over = end a.group a.cable a.bytes.now a.out.now (cable_of l.state) l.out l.read l.written l.invariant
    c.loop-read-test.false in
    record { report = c.report-2.ensures ∙ over.0; output = over.1 }
