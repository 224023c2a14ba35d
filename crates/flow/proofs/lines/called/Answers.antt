-- `flow::lines::called`: the effect that the call tells is what becomes of the record.
use Rattle.flow.proofs.ListLaws.{call-made}
use Rattle.flow.proofs.lines.called.Goals as goal

pub returns-clause-turn : goal.returns-clause-turn
returns-clause-turn c =
    let a = c.args in
    let z = rw c.open_rule.ensures at c.up-turned.ensures.turn in
    let e = rw (c.data1-key.ensures, c.word_at.ensures) at c.effected-after.ensures in
    call-made a.past a.words.now a.four.now a.record c.up-turned.result _ z e
