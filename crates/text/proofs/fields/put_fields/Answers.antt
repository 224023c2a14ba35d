-- `text::fields::put_fields`: one more field behind those of the numbers before it.
use Rattle.std.proofs.Common.{◌+◌, ◌∙◌, ap, arith, map, refl, sym}
use Rattle.std.proofs.lemmas.List.{get_or-map, length-map}
use lib.ListN.{length-set}
use Rattle.text.specs.Lines.{fields_of}
use Rattle.text.proofs.LineLaws.{field_more, room_more}
use Rattle.text.proofs.fields.put_fields.Goals as goal

pub loop-number-init : goal.loop-number-init
unfolding fields_of
loop-number-init g c = (omega arith, refl, refl)

pub loop-number-preserved : goal.loop-number-preserved
loop-number-preserved g c =
    let a = c.args in
    let l = c.loop-number in
    let i = l.number-index in
    let ws = map g.T.Field.worth a.numbers.now in
    let w = c.wide.ensures ∙ ap g.T.Field.worth c.number-item.is
    ∙ sym (get_or-map g.T.Field.worth a.numbers.now i c.number-item.result 0 c.loop-number-test.true) in (
      omega (arith, l.invariant.0, room_more a.digits i (i + 1) (omega arith)),
      (simp length-set at c.spell.auto.out) ∙ l.invariant.1,
      rw (c.spell.ensures, l.invariant.2)
          (field_more a.digits a.out.now ws a.to i l.at c.wide.result
          (omega (arith, c.loop-number-test.true, length-map a.numbers.now g.T.Field.worth)) l.invariant.0 w),
    )
