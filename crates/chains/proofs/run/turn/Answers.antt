-- `chains::run::turn`: the packet is cut, its chain is asked, or it is passed over; each way out is the definition's.
use mathlib.Core.Path.{◌≡◌, sym, ap, ◌∙◌}
use Prim.Native.Nat.{ℕ, ◌+◌, ◌-◌, ◌/◌}
use native.Mathlib.Omega.{arith}
use lib.ListN.{drop, length, length-drop, take}
use borrow.Author.Tests.{eqb-false, eqb-true}
use Rattle.screen.specs.Screen.{goes_on}
use Rattle.piece.proofs.PieceLaws.{slot-low}
use Rattle.chains.specs.declared.Collected.{Collected}
use Rattle.chains.specs.Collect.{refusal_of}
use Rattle.chains.specs.Turn.{named_by}
use Rattle.chains.proofs.CollectLaws.{buffer-same}
use Rattle.chains.proofs.WithinLaws.{buffer-length}
use Rattle.chains.proofs.StandLaws.{cut_none, piece-some, rest_from, standing, whole-at, whole-some}
use Rattle.ump.specs.Packet.{packet}
use Rattle.ump.proofs.PacketLaws.{packet-length}
use Rattle.std.specs.declared.ops.ControlFlow.TheVariants.{Break}
use Rattle.chains.specs.Run.{further}
use Rattle.chains.proofs.TurnLaws.{buffer-asked, chain-asked, progress-asked, progress-cut}
use Rattle.chains.proofs.TurnLaws.{progress-other, report-asked, turned-aside, turned-asked}
use Rattle.chains.proofs.run.turn.Goals as goal

pub returns-in_default-clause-turned : goal.returns-in_default-clause-turned
returns-in_default-clause-turned c =
    let a = c.args in
    let ws = a.words.now in
    let q = rest_from ws a.at _ c.min.ensures in
    let z = cut_none _ (sym c.whole_size.ensures ∙ c.in_default.is) in
    turned-aside a.c a.buffer.now ws a.at _ q _
    (ap (λ (x : Collected). Break x) c.beside.ensures ∙ progress-cut a.c a.at _ _ _ z) (λ f. piece-some _ f z)

pub returns-in_default-clause-buffer : goal.returns-in_default-clause-buffer
returns-in_default-clause-buffer c =
    let a = c.args in
    let q = rest_from a.words.now a.at _ c.min.ensures in
    let z = cut_none _ (sym c.whole_size.ensures ∙ c.in_default.is) in
    rw (← q) (sym (buffer-same a.c a.buffer.now _ (λ f. piece-some _ f z)))

pub overflow_add-end : goal.overflow_add-end
overflow_add-end c =
    let a = c.args in
    let ws = a.words.now in
    let q = rest_from ws a.at _ c.min.ensures in
    let n = whole-some _ _ (sym c.whole_size.ensures ∙ c.in-Some.is) in
    let k = rw q at n.0 in
    omega (arith, k, n.1, packet-length (drop a.at ws), length-drop a.at ws)

pub bounds-rest-0 : goal.bounds-rest-0
bounds-rest-0 c =
    let ws = c.args.words.now in
    let s = take (length ws - c.min.result) (drop c.min.result ws) in
    let e = eqb-true (refusal_of s) goes_on (sym c.is_asked.ensures ∙ c.if-is_asked.true) in
    omega (arith, (whole-at s 0 (piece-some s e)).inside)

pub take-step-requires : goal.take-step-requires
take-step-requires c =
    let e = eqb-true _ goes_on (sym c.is_asked.ensures ∙ c.if-is_asked.true) in
    (rw c.slot_of-k.ensures (slot-low _), standing _ 0 e)

pub named-requires : goal.named-requires
named-requires c =
    (rw c.slot_of-k.ensures (slot-low _), omega arith)

pub returns-then-is_asked-clause-turned : goal.returns-then-is_asked-clause-turned
returns-then-is_asked-clause-turned c =
    let a = c.args in
    let ws = a.words.now in
    let b = a.buffer.now in
    let q = rest_from ws a.at _ c.min.ensures in
    let s = take (length ws - c.min.result) (drop c.min.result ws) in
    let e = eqb-true (refusal_of s) goes_on (sym c.is_asked.ensures ∙ c.if-is_asked.true) in
    let t = c.take-step in
    let k = c.slot_of-k.ensures in
    let m = t.ensures.buffer ∙ buffer-asked a.c b s 0 _ e k in
    let l = ap length m ∙ buffer-length a.c b s in
    let n = (whole-some _ _ (sym c.whole_size.ensures ∙ c.in-Some.is)).0 in
    let r = c.named.ensures
    ∙ ap (λ (x : ℕ). named_by t.result.answer (a.at + c.in-Some.n) c.slot_of-k.result (x / 32) t.result.chain) l
    ∙ ap (further a.at) (report-asked a.c b s 0 e _ t.ensures.step _ _ n k) in
    turned-asked a.c b ws a.at s q _ (c.onward.ensures ∙ progress-asked a.c a.at (length ws) _ s e _ r) _ e
    (chain-asked a.c b s 0 e _ t.ensures.step)

pub returns-then-is_asked-clause-buffer : goal.returns-then-is_asked-clause-buffer
returns-then-is_asked-clause-buffer c =
    let a = c.args in
    let ws = a.words.now in
    let q = rest_from ws a.at _ c.min.ensures in
    let s = take (length ws - c.min.result) (drop c.min.result ws) in
    let e = eqb-true (refusal_of s) goes_on (sym c.is_asked.ensures ∙ c.if-is_asked.true) in
    rw (← q) (c.take-step.ensures.buffer ∙ buffer-asked a.c a.buffer.now s 0 _ e c.slot_of-k.ensures)

pub returns-clause-turned : goal.returns-clause-turned
returns-clause-turned c =
    let a = c.args in
    let ws = a.words.now in
    let q = rest_from ws a.at _ c.min.ensures in
    let s = take (length ws - c.min.result) (drop c.min.result ws) in
    let e = eqb-false (refusal_of s) goes_on (sym c.is_asked.ensures ∙ c.if-is_asked.false) in
    let w = whole-some _ _ (sym c.whole_size.ensures ∙ c.in-Some.is) in
    let n = w.0 in
    let some : length (packet s) ≡ 0 → ⊥ = λ z. w.1 (n ∙ z) in
    turned-aside a.c a.buffer.now ws a.at s q _ (c.going_on.ensures ∙ rw n (progress-other a.c a.at _ _ s some e)) e

pub returns-clause-buffer : goal.returns-clause-buffer
returns-clause-buffer c =
    let a = c.args in
    let ws = a.words.now in
    let q = rest_from ws a.at _ c.min.ensures in
    let s = take (length ws - c.min.result) (drop c.min.result ws) in
    let e = eqb-false (refusal_of s) goes_on (sym c.is_asked.ensures ∙ c.if-is_asked.false) in
    rw (← q) (sym (buffer-same a.c a.buffer.now s e))
