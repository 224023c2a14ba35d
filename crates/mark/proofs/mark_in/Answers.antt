-- `mark::mark_in` meets its contract: a record that is named stands inside the table, and is replaced. Assumes nothing.
use Prim.Native.Nat.{◌<◌}
use mathlib.Core.Path.{◌≡◌, sym, ap, ◌∙◌}
use lib.ListN.{length, set}
use borrow.Author.Rules.{rules}
use Rattle.ground.proofs.ListLaws.{get_d_any}
use Rattle.channel.specs.declared.Record.{Record}
use Rattle.channel.specs.Record.{empty, whole_table}
use Rattle.question.specs.Question.{place_asked}
use Rattle.mark.specs.Mark.{record_marked, table_marked}
use Rattle.mark.proofs.PlaceLaws.{named-inside}
use Rattle.mark.proofs.mark_in.Goals as goal

pub returns-then-is_named : goal.returns-then-is_named
unfolding table_marked
returns-then-is_named c =
    let i = c.is_named in
    let e = sym i.ensures ∙ c.if-is_named.true in
    let a = c.args in
    let k = place_asked a.group a.channel in
    let l : length a.table ≡ whole_table = search rules in
    let h : k < length a.table = rw l (named-inside 256 a.group a.channel e) in
    rw (l, e, c.unwrap_or.ensures ∙ c.marking.ensures.after, c.place_asked-i.ensures)
    (ap (λ (r : Record). set a.table k (record_marked r a.coarse)) (get_d_any a.table k _ empty h))

pub returns-else-is_named : goal.returns-else-is_named
unfolding table_marked
returns-else-is_named c =
    let i = c.is_named in
    let l : length c.args.table ≡ whole_table = search rules in
    rw (l, sym i.ensures ∙ c.if-is_named.false)
