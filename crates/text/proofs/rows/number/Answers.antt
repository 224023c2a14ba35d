-- `text::rows::number`: the digits are stored where they have room, and a number has at least one.
use Rattle.std.proofs.Common.{◌<◌, arith, refl, sym, ◌∙◌}
use Rattle.text.specs.Lines.{decimal, places}
use Rattle.text.proofs.LineLaws.{digits-length}
use Rattle.text.proofs.RowLaws.{places-some, put_there, put_nowhere}
use Rattle.text.proofs.rows.number.Goals as goal

pub spell-requires : goal.spell-requires
spell-requires c =
    let a = c.args in
    let some : 0 < c.places-digits.result = omega (arith, c.places-digits.ensures.count, places-some a.n a.n) in
    (omega arith, omega arith, omega (arith, some))

pub returns-then-digits-saturating_sub : goal.returns-then-digits-saturating_sub
returns-then-digits-saturating_sub c =
    let a = c.args in
    let k = c.places-digits.ensures.count in
    let r = put_there a.out.now a.to (decimal a.n) _ (k ∙ sym (digits-length 10 (places a.n) a.n)) (omega arith) _ _
    refl (rw k at c.spell.ensures) in
    record {
      place = r.0;
      text = r.1;
    }

pub returns-else-digits-saturating_sub : goal.returns-else-digits-saturating_sub
returns-else-digits-saturating_sub c =
    let a = c.args in
    let k = c.places-digits.ensures.count in
    let r = put_nowhere a.out.now a.to (decimal a.n) _ (k ∙ sym (digits-length 10 (places a.n) a.n)) (omega arith) in
    record {
      place = r.0;
      text = r.1;
    }
