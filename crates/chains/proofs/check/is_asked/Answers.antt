-- `chains::check::is_asked`: each of the two sorts by its own check, and no packet of another type.
use mathlib.Core.Path.{sym, ap, ◌∙◌}
use mathlib.Core.Bool.{not}
use mathlib.Core.Logic.{inl}
use native.Mathlib.Omega.{arith}
use Rattle.chains.proofs.StandLaws.{exclusive-at, flex-at, none-at, size-two, whole-at}
use Rattle.chains.proofs.check.is_asked.Goals as goal

pub bounds-words-0 : goal.bounds-words-0
bounds-words-0 c = let a = c.args in
    let q = c.requires in
    omega (arith, (whole-at a.words.now 0 q).inside)

pub bounds-words-1 : goal.bounds-words-1
bounds-words-1 c = let a = c.args in
    let q = c.requires in
    let e = sym c.message_type-t.ensures ∙ c.if-t-eq-EXCLUSIVE.true in
    omega (arith, (whole-at a.words.now 0 q).fits, size-two _ (inl e))

pub returns-then-t-eq-EXCLUSIVE : goal.returns-then-t-eq-EXCLUSIVE
returns-then-t-eq-EXCLUSIVE c = let a = c.args in
    let q = c.requires in
    let e = sym c.message_type-t.ensures ∙ c.if-t-eq-EXCLUSIVE.true in
    c.is_good_exclusive.ensures ∙ exclusive-at a.words.now 0 q e

pub returns-then-t-eq-FLEX : goal.returns-then-t-eq-FLEX
returns-then-t-eq-FLEX c = let a = c.args in
    let q = c.requires in
    let e = sym c.message_type-t.ensures ∙ c.if-t-eq-FLEX.true in
    ap not c.has_strange_address.ensures ∙ flex-at a.words.now 0 q e

pub returns : goal.returns
returns c = let a = c.args in
    let q = c.requires in
    let m = c.message_type-t.ensures in
    none-at a.words.now 0 q (λ e. c.if-t-eq-EXCLUSIVE.false (m ∙ e)) (λ e. c.if-t-eq-FLEX.false (m ∙ e))
