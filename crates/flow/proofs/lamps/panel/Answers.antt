-- `flow::lamps::panel` meets its contract: one more record is one more line, and where none is left all are put.
-- Assumes nothing.
use Prim.Native.Nat.{ℕ}
use mathlib.Core.Path.{sym, ap, ◌∙◌}
use mathlib.Core.List.{List}
use native.Mathlib.Omega.{arith}
use Rattle.text.proofs.RowLaws.{or-else}
use Rattle.flow.proofs.PanelLaws.{lines-done, lines_more, panel-whole}
use Rattle.flow.proofs.lamps.panel.Goals as goal

pub loop-i-preserved : goal.loop-i-preserved
loop-i-preserved c =
    let l = c.loop-i in
    let k = c.lamps-end in (
      omega arith,
      k.auto.out ∙ l.invariant.1,
      l.invariant.2,
      l.invariant.3
          ∙ lines_more c.args.table.records l.i _ l.text _ l.written _ (omega (arith, l.invariant.2))
          (c.unwrap_or-written.ensures ∙ or-else _ l.written _ _ k.ensures.place, k.ensures.text),
    )

pub returns : goal.returns
returns c =
    let a = c.args in
    let l = c.loop-i in
    let t = a.table.records in
    let e = l.invariant.3 ∙ lines-done t l.i l.text l.written (omega (arith, l.invariant.2)) in
    let n = ap (λ (r : ℕ × List ℕ). r.0) (sym e) in
    let x = ap (λ (r : ℕ × List ℕ). r.1) (sym e) in
    record { bytes = n; text = x; whole = λ h. panel-whole t a.text.now l.text l.written l.invariant.2 n x h }
