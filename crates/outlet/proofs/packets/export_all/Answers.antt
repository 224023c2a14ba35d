-- `outlet::packets::export_all` meets its contract: each turn is one more packet of the run, and the words' end ends it.
-- Assumes nothing.
use mathlib.Core.Path.{◌∙◌}
use native.Mathlib.Omega.{arith}
use Rattle.stream.proofs.RunLoop.{finish, reports, start}
use Rattle.outlet.specs.Outlet.{step_out}
use Rattle.outlet.proofs.CallLaws.{out-inside, out-near}
use Rattle.outlet.proofs.StepLaws.{goes_on_lem, halts}
use Rattle.outlet.proofs.packets.export_all.Goals as goal

pub loop-read-init : goal.loop-read-init
loop-read-init c = start (step_out _) (out-near _) (out-inside _) tt _ _

pub export_next-done-requires : goal.export_next-done-requires
export_next-done-requires c = (c.loop-read-test.true, c.loop-read.invariant.wrote)

pub loop-read-smaller : goal.loop-read-smaller
loop-read-smaller c =
    let l = c.loop-read in
    let e = c.export_next-done.ensures in
    let z = goes_on_lem c.args.group c.args.words.now c.args.out.now l.out l.read l.written l.invariant
    c.loop-read-test.true _ _ e.report e.output c.if-done-eq-SENT.true in
    omega (arith, z.0.read, z.1)

pub loop-read-preserved : goal.loop-read-preserved
loop-read-preserved c =
    let l = c.loop-read in
    let e = c.export_next-done.ensures in
    (goes_on_lem c.args.group c.args.words.now c.args.out.now l.out l.read l.written l.invariant
    c.loop-read-test.true _ _ e.report e.output c.if-done-eq-SENT.true).0

pub returns-else-done-eq-SENT : goal.returns-else-done-eq-SENT
returns-else-done-eq-SENT c =
    let l = c.loop-read in
    let e = c.export_next-done.ensures in
    let z = halts c.args.group c.args.words.now c.args.out.now l.out l.read l.written l.invariant
    c.loop-read-test.true _ _ e.report e.output c.if-done-eq-SENT.false in
    record { report = c.report.ensures ∙ reports z; output = z.holds }

pub returns : goal.returns
returns c =
    let g = c.args.group in
    let l = c.loop-read in
    let z = finish (step_out g) (out-near g) (out-inside g) tt c.args.words.now c.args.out.now tt l.out l.read
    l.written l.invariant c.loop-read-test.false in
    record { report = c.report-2.ensures ∙ reports z; output = z.holds }
