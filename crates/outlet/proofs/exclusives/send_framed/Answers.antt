-- `outlet::exclusives::send_framed` meets its contract: the three parts are stored one after another. Assumes nothing.
use mathlib.Core.Bool.{◌||◌}
use mathlib.Core.Path.{◌≡◌, ap, refl, sym, ◌∙◌}
use native.Mathlib.Omega.{arith}
use lib.Dec.{eqb, leb}
use Rattle.ump.specs.Word.{count, status}
use lib.Seq.{sets}
use borrow.Author.Tests.{le-leb, lt-leb}
use Rattle.outlet.specs.Sending.{marked}
use Rattle.outlet.proofs.RowLaws.{framed-length, framed-stored, mark-none, mark-some}
use Rattle.outlet.proofs.exclusives.send_framed.Goals as goal
use Rattle.outlet.proofs.exclusives.send_framed.Goals.{else-opens, then-opens}

pub returns-then-out-end : goal.returns-then-out-end
returns-then-out-end c =
    let a = c.args in
    let f = c.status-form.ensures in
    let s = status a.w in
    let l = framed-length (leb s 1) (eqb s 0 || eqb s 3) (count a.w) a.w a.v c.requires.0 in
    let h = rw f at c.from.ensures in
    let t = rw f at c.from-2.ensures in
    (omega (arith, l, h, t, c.count-n.ensures, c.if-out-end.true), refl)

pub returns-then-closes : goal.returns-then-closes
returns-then-closes c =
    let a = c.args in
    let f = c.status-form.ensures in
    let s = status a.w in
    let o = leb s 1 in
    let e = eqb s 0 || eqb s 3 in
    let h = rw f at c.from.ensures in
    let t = rw f at c.from-2.ensures in
    let n = c.count-n.ensures in
    let p = c.put_payload.ensures in
    let form = c.status-form.result in
    let q : leb s 1 ≡ leb form 1 = sym (ap (λ x. leb x 1) f) in
    let b : c.if-opens.out ≡ sets a.out.now a.to (marked o 0xF0) =
    elim c.if-opens.branch [
      | then-opens w ↦ w.out-is ∙ sym (mark-some o 0xF0 a.to a.out.now (q ∙ le-leb form 1 w.if-opens.true))
      | else-opens w ↦ w.out-is ∙ sym (mark-none o 0xF0 a.to a.out.now (q ∙ lt-leb form 1 w.if-opens.false))
    ] in
    framed-stored o e (count a.w) a.w a.v c.requires.0 a.to _ a.out.now _ (omega (arith, h, t, n))
    (omega (arith, c.if-out-end.false))
    (rw (p, b, h, n) (sym (mark-some e 0xF7 _ _ (rw f at c.if-closes.true))))

pub returns-else-closes : goal.returns-else-closes
returns-else-closes c =
    let a = c.args in
    let f = c.status-form.ensures in
    let s = status a.w in
    let o = leb s 1 in
    let e = eqb s 0 || eqb s 3 in
    let h = rw f at c.from.ensures in
    let t = rw f at c.from-2.ensures in
    let n = c.count-n.ensures in
    let p = c.put_payload.ensures in
    let form = c.status-form.result in
    let q : leb s 1 ≡ leb form 1 = sym (ap (λ x. leb x 1) f) in
    let b : c.if-opens.out ≡ sets a.out.now a.to (marked o 0xF0) =
    elim c.if-opens.branch [
      | then-opens w ↦ w.out-is ∙ sym (mark-some o 0xF0 a.to a.out.now (q ∙ le-leb form 1 w.if-opens.true))
      | else-opens w ↦ w.out-is ∙ sym (mark-none o 0xF0 a.to a.out.now (q ∙ lt-leb form 1 w.if-opens.false))
    ] in
    framed-stored o e (count a.w) a.w a.v c.requires.0 a.to _ a.out.now _ (omega (arith, h, t, n))
    (omega (arith, c.if-out-end.false))
    (p ∙ rw (b, h, n) (sym (mark-none e 0xF7 _ _ (rw f at c.if-closes.false))))
