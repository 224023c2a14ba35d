-- `chains::call`: the packet is cut, its chain is asked, or it is told without; each way out is the definition's.
use mathlib.Core.Path.{◌≡◌, sym, ap, ◌∙◌}
use Prim.Native.Nat.{ℕ, ◌/◌}
use native.Mathlib.Omega.{arith}
use lib.ListN.{drop, length}
use borrow.Author.Tests.{eqb-false, eqb-true}
use Rattle.screen.specs.Screen.{goes_on}
use Rattle.piece.proofs.PieceLaws.{slot-low}
use Rattle.chains.specs.Collect.{refusal_of}
use Rattle.chains.specs.Turn.{named_by}
use Rattle.chains.proofs.CollectLaws.{buffer-same, chain_same}
use Rattle.chains.proofs.WithinLaws.{buffer-length}
use Rattle.chains.proofs.StandLaws.{cut_none, piece-some, standing, whole-at, whole-some}
use Rattle.chains.proofs.TurnLaws.{buffer-asked, called_is, chain-asked, report-asked}
use Rattle.chains.proofs.TurnLaws.{report-cut}
use Rattle.chains.proofs.call.Goals as goal

pub returns-in_default-clause-called : goal.returns-in_default-clause-called
returns-in_default-clause-called c =
    let a = c.args in
    let ws = a.words.now in
    let z = cut_none _ (sym c.whole_size.ensures ∙ c.in_default.is) in
    let e : refusal_of ws ≡ goes_on → ⊥ = λ f. piece-some ws f z in
    called_is a.c a.buffer.now ws _ _ (c.beside.ensures ∙ sym (report-cut a.c _ ws z)) (sym (chain_same a.c _ ws e))

pub returns-in_default-clause-buffer : goal.returns-in_default-clause-buffer
returns-in_default-clause-buffer c =
    let a = c.args in
    let ws = a.words.now in
    let z = cut_none _ (sym c.whole_size.ensures ∙ c.in_default.is) in
    let e : refusal_of ws ≡ goes_on → ⊥ = λ f. piece-some ws f z in
    sym (buffer-same a.c a.buffer.now ws e)

pub bounds-words-0 : goal.bounds-words-0
bounds-words-0 c =
    let ws = c.args.words.now in
    let e = eqb-true (refusal_of (drop 0 ws)) goes_on (sym c.is_asked.ensures ∙ c.if-is_asked.true) in
    omega (arith, (whole-at ws 0 (piece-some (drop 0 ws) e)).inside)

pub take-step-requires : goal.take-step-requires
take-step-requires c =
    let ws = c.args.words.now in
    let e = eqb-true (refusal_of (drop 0 ws)) goes_on (sym c.is_asked.ensures ∙ c.if-is_asked.true) in
    (rw c.slot_of-k.ensures (slot-low _), standing ws 0 e)

pub named-requires : goal.named-requires
named-requires c =
    (rw c.slot_of-k.ensures (slot-low _), omega arith)

pub returns-then-is_asked-clause-called : goal.returns-then-is_asked-clause-called
returns-then-is_asked-clause-called c =
    let a = c.args in
    let ws = a.words.now in
    let b = a.buffer.now in
    let e = eqb-true (refusal_of (drop 0 ws)) goes_on (sym c.is_asked.ensures ∙ c.if-is_asked.true) in
    let t = c.take-step in
    let k = c.slot_of-k.ensures in
    let m = t.ensures.buffer ∙ buffer-asked a.c b ws 0 _ e k in
    let l = ap length m ∙ buffer-length a.c b ws in
    let n = (whole-some _ _ (sym c.whole_size.ensures ∙ c.in-Some.is)).0 in
    let r = c.named.ensures
    ∙ ap (λ (x : ℕ). named_by t.result.answer c.in-Some.n c.slot_of-k.result (x / 32) t.result.chain) l
    ∙ report-asked a.c b ws 0 e _ t.ensures.step _ _ n k in
    called_is a.c b ws _ _ r (chain-asked a.c b ws 0 e _ t.ensures.step)

pub returns-then-is_asked-clause-buffer : goal.returns-then-is_asked-clause-buffer
returns-then-is_asked-clause-buffer c =
    let a = c.args in
    let ws = a.words.now in
    let e = eqb-true (refusal_of (drop 0 ws)) goes_on (sym c.is_asked.ensures ∙ c.if-is_asked.true) in
    c.take-step.ensures.buffer ∙ buffer-asked a.c a.buffer.now ws 0 _ e c.slot_of-k.ensures

pub aside-requires : goal.aside-requires
aside-requires c =
    let ws = c.args.words.now in
    let e = eqb-false (refusal_of ws) goes_on (sym c.is_asked.ensures ∙ c.if-is_asked.false) in
    let n = whole-some _ _ (sym c.whole_size.ensures ∙ c.in-Some.is) in
    (n.0, n.1, e, omega arith)

pub returns-clause-called : goal.returns-clause-called
returns-clause-called c =
    let a = c.args in
    let ws = a.words.now in
    let e = eqb-false (refusal_of ws) goes_on (sym c.is_asked.ensures ∙ c.if-is_asked.false) in
    called_is a.c a.buffer.now ws _ _ c.aside.ensures (sym (chain_same a.c _ ws e))

pub returns-clause-buffer : goal.returns-clause-buffer
returns-clause-buffer c =
    let a = c.args in
    let ws = a.words.now in
    let e = eqb-false (refusal_of ws) goes_on (sym c.is_asked.ensures ∙ c.if-is_asked.false) in
    sym (buffer-same a.c a.buffer.now ws e)
