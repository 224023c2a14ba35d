-- `chains::part::step` meets its contract: a piece that is taken fits, and its two ways out are the definition's.
-- Assumes nothing.
use Rattle.std.proofs.Common.{◌∙◌, ap, sym, arith, length, get_or}
use Rattle.piece.specs.declared.Head.{Head}
use Rattle.piece.proofs.PieceLaws.{head-any, piece-fine}
use Rattle.chains.specs.Turn.{piece_at}
use Rattle.chains.proofs.StepLaws.{head-fits, head-refused, head-taken, head-verdict, last-low}
use Rattle.chains.proofs.StepLaws.{part-refused, part-taken, refusal-high}
use Rattle.chains.proofs.part.step.Goals as goal

pub put-requires : goal.put-requires
put-requires c =
    let a = c.args in
    let h = c.head_of-x.ensures ∙ sym (head-any (get_or a.words.now 0 0) _ _ _) in
    let e = rw c.in-Ok.is at c.check.ensures in
    let f = head-fits a.c (length a.part.now) (piece_at a.words.now 0) _ h _ e (piece-fine _ _ _ _ _) (last-low _) in
    (c.requires, rw c.base_of.ensures f.1, ap (λ (x : Head). x.count) h)

pub grown-requires : goal.grown-requires
grown-requires c =
    let a = c.args in
    let h = c.head_of-x.ensures ∙ sym (head-any (get_or a.words.now 0 0) _ _ _) in
    let e = rw c.in-Ok.is at c.check.ensures in
    let f = head-fits a.c (length a.part.now) (piece_at a.words.now 0) _ h _ e (piece-fine _ _ _ _ _) (last-low _) in
    (f.0, omega (arith, f.1))

pub returns-in-Ok-clause-step : goal.returns-in-Ok-clause-step
returns-in-Ok-clause-step c =
    let a = c.args in
    let h = c.head_of-x.ensures ∙ sym (head-any (get_or a.words.now 0 0) _ _ _) in
    let e = rw c.in-Ok.is at c.check.ensures in
    rw c.answer_taken.ensures
    (head-taken a.c (length a.part.now) (piece_at a.words.now 0) _ h _ e _ (last-low _) c.grown.ensures)

pub returns-in-Ok-clause-part : goal.returns-in-Ok-clause-part
returns-in-Ok-clause-part c =
    let a = c.args in
    let x = piece_at a.words.now 0 in
    let h = c.head_of-x.ensures ∙ sym (head-any (get_or a.words.now 0 0) _ _ _) in
    let e = rw c.in-Ok.is at c.check.ensures in
    let v = head-verdict a.c (length a.part.now) x _ h _ e in
    c.put.ensures
    ∙ rw (c.base_of.ensures, ap (λ (h : Head). h.count) h) (part-taken a.c x _ a.part.now v (last-low _))

pub returns-in-Err-clause-step : goal.returns-in-Err-clause-step
returns-in-Err-clause-step c =
    let a = c.args in
    let h = c.head_of-x.ensures ∙ sym (head-any (get_or a.words.now 0 0) _ _ _) in
    let e = rw c.in-Err.is at c.check.ensures in
    rw c.from.ensures
    (head-refused a.c (length a.part.now) (piece_at a.words.now 0) _ h _ e _ (refusal-high _) c.refused.ensures)

pub returns-in-Err-clause-part : goal.returns-in-Err-clause-part
returns-in-Err-clause-part c =
    let a = c.args in
    let x = piece_at a.words.now 0 in
    let h = c.head_of-x.ensures ∙ sym (head-any (get_or a.words.now 0 0) _ _ _) in
    let e = rw c.in-Err.is at c.check.ensures in
    let v = head-verdict a.c (length a.part.now) x _ h _ e in
    part-refused a.c x _ a.part.now v (refusal-high _)
