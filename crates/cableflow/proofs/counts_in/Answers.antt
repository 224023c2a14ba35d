-- `cableflow::counts_in` meets its contract: after each call it is over, or the answer is counted and less is left to
-- do. Assumes nothing.
use Prim.Native.Nat.{◌^◌, ◌<◌}
use native.Mathlib.Omega.{arith}
use lib.ListN.{length}
use Rattle.cable.specs.Hearing.{told}
use Rattle.cableflow.proofs.CountLaws.{finish, start, turn}
use Rattle.cableflow.proofs.counts_in.Goals as goal

pub loop-at-init : goal.loop-at-init
loop-at-init c = start _ _ _ _ _ c.none-counts.ensures

pub returns-then-left-needs : goal.returns-then-left-needs
returns-then-left-needs c =
    let l = c.loop-at in
    let a = c.args in
    (turn a.group a.cable a.bytes.now a.room l.counts.times l.state l.at l.left l.invariant
    c.loop-at-test.true (told c.hear-heard.result) c.hear-heard.ensures _
    c.length_of-needs.ensures).0 c.if-left-needs.true

pub overflow_add-at : goal.overflow_add-at
overflow_add-at c =
    let l = c.loop-at in
    let a = c.args in
    let fits : length a.bytes.now < 2 ^ 63 = omega (arith, c.well_formed) in
    let z = (turn a.group a.cable a.bytes.now a.room l.counts.times l.state l.at l.left l.invariant
    c.loop-at-test.true (told c.hear-heard.result) c.hear-heard.ensures _
    c.length_of-needs.ensures).1 c.if-left-needs.false fits in
    omega (arith, z.0.read)

pub loop-at-smaller : goal.loop-at-smaller
loop-at-smaller c =
    let l = c.loop-at in
    let a = c.args in
    let fits : length a.bytes.now < 2 ^ 63 = omega (arith, c.well_formed) in
    ((turn a.group a.cable a.bytes.now a.room l.counts.times l.state l.at l.left l.invariant
    c.loop-at-test.true (told c.hear-heard.result) c.hear-heard.ensures _
    c.length_of-needs.ensures).1 c.if-left-needs.false fits).1

pub loop-at-preserved : goal.loop-at-preserved
loop-at-preserved c =
    let l = c.loop-at in
    let a = c.args in
    let fits : length a.bytes.now < 2 ^ 63 = omega (arith, c.well_formed) in
    rw (c.add.ensures, c.from.ensures)
    ((turn a.group a.cable a.bytes.now a.room l.counts.times l.state l.at l.left l.invariant
    c.loop-at-test.true (told c.hear-heard.result) c.hear-heard.ensures _
    c.length_of-needs.ensures).1 c.if-left-needs.false fits).0

pub returns : goal.returns
returns c =
    let l = c.loop-at in
    let a = c.args in
    finish a.group a.cable a.bytes.now a.room l.counts.times l.state l.at l.left l.invariant c.loop-at-test.false
