-- `display::picture::put_notes`: the loop's invariant is the row of the notes below.
use Prim.Native.Nat.{ℕ, ◌≤◌}
use mathlib.Core.Path.{ap, subst}
use mathlib.Core.List.{List}
use native.Mathlib.Omega.{arith}
use lib.ListN.{length, length-append}
use Rattle.std.specs.Prelude.{Option}
use Rattle.pitch.specs.declared.Shown.{Shown}
use Rattle.figures.proofs.Rows.{and-stored, nothing_put, row-long}
use Rattle.display.specs.Line.{field_from, fields_below, shown_at}
use Rattle.display.proofs.LineLaws.{fields-more, fields-none, from-few}
use Rattle.display.proofs.picture.put_notes.Goals as goal

pub loop-note-init : goal.loop-note-init
loop-note-init c =
    let a = c.args in
    rw (fields-none a.desk a.units) (omega arith, nothing_put a.row.now a.at)

pub put_shown-end-requires : goal.put_shown-end-requires
put_shown-end-requires c =
    let l = c.loop-note in
    let a = c.args in
    let i = l.invariant in (
      c.shown.ensures.parts,
      omega (arith, i.0, i.1.place, row-long a.row.now a.at i.1, c.requires, c.loop-note-test.true),
    )

pub loop-note-preserved : goal.loop-note-preserved
loop-note-preserved c =
    let l = c.loop-note in
    let a = c.args in
    let e = ap (λ (o : Option Shown). field_from l.note o) c.shown.ensures.is in
    let f = fields_below a.desk a.units l.note in
    let g = field_from l.note (shown_at a.desk a.units l.note) in
    let few = subst (λ (t : List ℕ). length t ≤ 63) e
    (from-few l.note _ c.shown.ensures.parts (omega arith)) in
    rw (fields-more a.desk a.units l.note) (
      omega (arith, few, l.invariant.0, length-append f g),
      and-stored a.row.now a.at l.invariant.1 g _ _ (
        rw e at c.put_shown-end.ensures.place,
        rw e at c.put_shown-end.ensures.text,
      ),
    )
