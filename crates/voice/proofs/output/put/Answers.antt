-- `voice::output::put` meets its contract: the words fit and are stored one after the other, or nothing is. Assumes nothing.
use mathlib.Core.Path.{◌≡◌}
use mathlib.Core.List.{[], ◌∷◌}
use native.Mathlib.Omega.{arith}
use native.Mathlib.Numerals.{unary_clauses}
use Rattle.voice.specs.Output.{sent_words}
use Rattle.voice.proofs.PutLaws.{put_all, put-none, put-short}
use Rattle.voice.proofs.output.put.Goals as goal

pub returns-then-saturating_sub-count : goal.returns-then-saturating_sub-count
returns-then-saturating_sub-count c =
    let g = c.args in
    let z = put-short g.words g.to g.out.now c.requires (omega (arith, c.if-saturating_sub-count.true, c.saturating_sub.ensures)) in
    record { answer = z.0; output = z.1 }

pub returns-in-0 : goal.returns-in-0
returns-in-0 c =
    let g = c.args in
    let z = put-none g.words g.to g.out.now c.requires c.in-0.is in
    record { answer = z.0; output = z.1 }

pub returns-in-1 : goal.returns-in-1
unfolding sent_words
returns-in-1 c =
    let g = c.args in
    let z = put_all g.words g.to g.out.now c.requires (g.words.first ∷ []) (rw c.in-1.is) (omega arith)
    (omega (arith, c.in-1.is, c.if-saturating_sub-count.false, c.saturating_sub.ensures)) in
    record { answer = z.0; output = z.1 }

pub returns-in-2 : goal.returns-in-2
unfolding sent_words
returns-in-2 c =
    let g = c.args in
    let z = put_all g.words g.to g.out.now c.requires (g.words.first ∷ g.words.second ∷ []) (rw c.in-2.is) (omega arith)
    (omega (arith, c.in-2.is, c.if-saturating_sub-count.false, c.saturating_sub.ensures)) in
    record { answer = z.0; output = simp unary_clauses z.1 }

pub returns-in-3 : goal.returns-in-3
unfolding sent_words
returns-in-3 c =
    let g = c.args in
    let z = put_all g.words g.to g.out.now c.requires (g.words.first ∷ g.words.second ∷ g.words.third ∷ []) (rw c.in-3.is) (omega arith)
    (omega (arith, c.in-3.is, c.if-saturating_sub-count.false, c.saturating_sub.ensures)) in
    record { answer = z.0; output = simp unary_clauses z.1 }

pub returns-in_default : goal.returns-in_default
unfolding sent_words
returns-in_default c =
    let g = c.args in
    let rest : g.words.count ≡ 4 = omega (arith, c.requires) in
    let z = put_all g.words g.to g.out.now c.requires (g.words.first ∷ g.words.second ∷ g.words.third ∷ g.words.fourth ∷ [])
    (rw rest) (omega arith) (omega (arith, rest, c.if-saturating_sub-count.false, c.saturating_sub.ensures)) in
    record { answer = z.0; output = simp unary_clauses z.1 }
