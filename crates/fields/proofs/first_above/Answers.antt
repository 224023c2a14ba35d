-- The bytes below the index are good. The first bad one stands right behind them, and without one all are good.
use Rattle.std.proofs.Common.{sym, ap, ◌∙◌, arith}
use Rattle.std.proofs.lemmas.Bool.{lt-leb, le-leb}
use Rattle.fields.specs.Check.{place_found}
use Rattle.fields.proofs.CheckLaws.{found-behind, from-bad, from-good, from-none, passed, passed-good}
use Rattle.fields.proofs.first_above.Goals as goal

pub returns-then-byte-gt-MOST-clause-place : goal.returns-then-byte-gt-MOST-clause-place
returns-then-byte-gt-MOST-clause-place c =
    let l = c.loop-i in
    let bs = c.args.bytes.now in
    let bad = from-bad bs l.i (omega arith) (lt-leb _ 127 (omega arith)) in
    sym (ap place_found (l.invariant.place ∙ ap (passed l.i) bad) ∙ found-behind l.i)

pub loop-i-preserved : goal.loop-i-preserved
loop-i-preserved c =
    let l = c.loop-i in
    let bs = c.args.bytes.now in
    let good = from-good bs l.i (omega arith) (le-leb _ 127 (omega arith)) in
    record { place = l.invariant.place ∙ ap (passed l.i) good ∙ passed-good l.i _; inside = omega arith }

pub returns-clause-place : goal.returns-clause-place
returns-clause-place c =
    let l = c.loop-i in
    sym (ap place_found (l.invariant.place ∙ ap (passed l.i) (from-none c.args.bytes.now l.i (omega arith))))
