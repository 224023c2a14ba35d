-- `handover::give` meets its contract: a group that changes hands stands in the list, and its records are emptied.
-- Assumes nothing.
use Rattle.std.proofs.Common.{ℕ, ◌≡◌, ◌≤◌, ◌+◌, ◌-◌, ap, arith, sym, true, false, length, ◌∙◌}
use borrow.Rule.Slice.PartMut.{put_mid}
use Rattle.handover.specs.Handover.{changes_hands, channels, emptied, owners_after, table_given}
use Rattle.handover.proofs.Emptying.{emptied-part}
use Rattle.handover.proofs.HandoverLaws.{changes-inside, changes-row, table_stays}
use Rattle.handover.proofs.give.Goals as goal

pub returns-then-not-changes_hands-clause-owners : goal.returns-then-not-changes_hands-clause-owners
unfolding owners_after
returns-then-not-changes_hands-clause-owners c =
    let a = c.args in
    let h : changes_hands a.owners.now (length a.table.now) a.group a.host ≡ false =
    sym c.changes_hands.ensures ∙ c.if-not-changes_hands.true in
    rw h

pub returns-then-not-changes_hands-clause-table : goal.returns-then-not-changes_hands-clause-table
returns-then-not-changes_hands-clause-table c =
    let a = c.args in
    sym (table_stays a.owners.now a.table.now a.group a.host
    (sym c.changes_hands.ensures ∙ c.if-not-changes_hands.true))

pub bounds-owners-group : goal.bounds-owners-group
bounds-owners-group c =
    let a = c.args in
    changes-inside a.owners.now (length a.table.now) a.group a.host
    (sym c.changes_hands.ensures ∙ c.if-not-changes_hands.false)

pub returns-clause-owners : goal.returns-clause-owners
unfolding owners_after
returns-clause-owners c =
    let a = c.args in
    let h : changes_hands a.owners.now (length a.table.now) a.group a.host ≡ true =
    sym c.changes_hands.ensures ∙ c.if-not-changes_hands.false in
    rw h

pub slice_bounds-empty_from-end : goal.slice_bounds-empty_from-end
slice_bounds-empty_from-end c =
    let a = c.args in
    let e = sym c.changes_hands.ensures ∙ c.if-not-changes_hands.false in
    omega (arith, c.record_number-first.ensures, changes-row a.owners.now (length a.table.now) a.group a.host e)

pub returns-clause-table : goal.returns-clause-table
unfolding table_given
returns-clause-table c =
    let a = c.args in
    let first = c.record_number-first.result in
    let e : changes_hands a.owners.now (length a.table.now) a.group a.host ≡ true =
    sym c.changes_hands.ensures ∙ c.if-not-changes_hands.false in
    let inside : first + channels ≤ length a.table.now =
    rw c.record_number-first.ensures (changes-row a.owners.now (length a.table.now) a.group a.host e) in
    let part = emptied-part a.table.now first (first + channels - first) (omega (arith, inside)) channels (omega arith) in
    rw e
    (ap (put_mid first (first + channels - first) a.table.now) c.empty_from.ensures ∙ part
    ∙ ap (λ (k : ℕ). emptied a.table.now k channels) c.record_number-first.ensures)
