-- `gather::collect`: the call with the chain in the packet's slot is that over all of them.
use Prim.Native.Nat.{◌<◌}
use mathlib.Core.Path.{◌≡◌, ap, sym, ◌∙◌}
use native.Mathlib.Omega.{arith}
use lib.ListN.{get_or}
use Rattle.std.proofs.Common.{ℕ, List}
use Rattle.piece.specs.Piece.{slot_by}
use Rattle.piece.proofs.PieceLaws.{slot-low}
use Rattle.chains.specs.declared.Called.{Called}
use Rattle.chains.specs.Turn.{called_with}
use Rattle.chains.proofs.ListLaws.{own-buffer, own-chains, own-open, own-report}
use Rattle.gather.proofs.collect.Goals as goal

low : (ws : List ℕ) (i : ℕ) → i ≡ slot_by (get_or ws 0 0) → i < 32
low ws i e = rw e (slot-low (get_or ws 0 0))

pub offset_bounds-chains-i : goal.offset_bounds-chains-i
offset_bounds-chains-i c = omega (arith, low c.args.words.now _ c.slot_at-i.ensures)

pub bounds-chains-i : goal.bounds-chains-i
bounds-chains-i c = low c.args.words.now _ c.slot_at-i.ensures

pub offset_bounds-chains-i-2 : goal.offset_bounds-chains-i-2
offset_bounds-chains-i-2 c = omega (arith, low c.args.words.now _ c.slot_at-i.ensures)

pub bounds-chains-i-2 : goal.bounds-chains-i-2
bounds-chains-i-2 c = low c.args.words.now _ c.slot_at-i.ensures

pub returns-clause-report : goal.returns-clause-report
unfolding called_with
returns-clause-report c =
    let a = c.args in
    let e = rw c.slot_at-i.ensures at c.call-called.ensures.called in
    ap (λ (x : Called). x.report) e ∙ own-report a.chains.now a.buffer.now a.words.now 0

pub returns-clause-dropped : goal.returns-clause-dropped
unfolding called_with
returns-clause-dropped c =
    let a = c.args in
    let e = rw c.slot_at-i.ensures at c.call-called.ensures.called in
    let r = ap (λ (x : Called). x.report) e ∙ own-report a.chains.now a.buffer.now a.words.now 0 in
    rw (c.is_dropping.ensures, r, c.slot_at-i.ensures) (sym (own-open a.chains.now a.buffer.now a.words.now 0))

pub returns-clause-chains : goal.returns-clause-chains
unfolding called_with
returns-clause-chains c =
    let a = c.args in
    let e = rw c.slot_at-i.ensures at c.call-called.ensures.called in
    rw c.slot_at-i.ensures (rw (ap (λ (x : Called). x.chain) e) (own-chains a.chains.now a.buffer.now a.words.now 0))

pub returns-clause-buffer : goal.returns-clause-buffer
unfolding called_with
returns-clause-buffer c =
    let a = c.args in
    let e = rw c.slot_at-i.ensures at c.call-called.ensures.buffer in
    e ∙ own-buffer a.chains.now a.buffer.now a.words.now 0
