-- `text::made::Made::call`: the answer and a space, the words read, and a space and the place, where there is one.
use Rattle.text.proofs.LineLaws.{call_with_place, call_without}
use Rattle.text.proofs.made.Made.call.Goals as goal

pub returns-then-place-ne0-clause-text : goal.returns-then-place-ne0-clause-text
returns-then-place-ne0-clause-text g c =
    let a = c.args in
    rw (
      c.number-then-place-ne0.ensures.text,
      c.byte.ensures.text,
      c.number.ensures.text,
      c.number_then.ensures.text,
    ) (call_with_place a.self.now a.answer a.read a.place c.if-place-ne0.true)

pub returns-else-place-ne0-clause-text : goal.returns-else-place-ne0-clause-text
returns-else-place-ne0-clause-text g c =
    let a = c.args in
    rw (c.number.ensures.text, c.number_then.ensures.text)
    (call_without a.self.now a.answer a.read a.place c.if-place-ne0.false)
