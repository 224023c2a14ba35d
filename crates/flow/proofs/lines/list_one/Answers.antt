-- `flow::lines::list_one` meets its contract: a call that stops has no line, and any other has its line where there is
-- room. Assumes nothing.
use mathlib.Core.Path.{◌∙◌}
use lib.ListN.{drop}
use Rattle.voice.specs.Packet.{packet_up}
use Rattle.voice.specs.Turn.{next}
use Rattle.flow.proofs.ListLaws.{calls_at, line-none, line-some, up-cut, up-few}
use Rattle.flow.proofs.lines.list_one.Goals as goal

pub returns-then-done-read : goal.returns-then-done-read
returns-then-done-read c =
    let a = c.args in
    let p = next a.words.now a.past in
    let x = c.called-turned in
    let z = line-none a.past p a.text.now a.record x.result x.new.four (packet_up a.record p)
    (up-few a.record (drop a.past.read a.words.now)) (up-cut a.record p)
    (calls_at a.words.now a.past _ a.text.now a.record x.result _ c.report.ensures (x.ensures.turn, x.ensures.output))
    c.if-done-read.true in
    record { turn = c.told.ensures ∙ z.0; text = z.1 }

pub returns-in_default : goal.returns-in_default
returns-in_default c =
    let a = c.args in
    let p = next a.words.now a.past in
    let x = c.called-turned in
    let z = line-some a.past p a.text.now a.record x.result x.new.four (packet_up a.record p)
    c.line.result c.line.new.out (up-few a.record (drop a.past.read a.words.now))
    (calls_at a.words.now a.past _ a.text.now a.record x.result _ c.report.ensures (x.ensures.turn, x.ensures.output))
    c.if-done-read.false (c.line.ensures.place, c.line.ensures.text) in
    let w = z.0 c.in_default.is in
    record { turn = rw c.report-done.ensures w.0; text = w.1 }

pub returns : goal.returns
returns c =
    let a = c.args in
    let p = next a.words.now a.past in
    let x = c.called-turned in
    let z = line-some a.past p a.text.now a.record x.result x.new.four (packet_up a.record p)
    c.line.result c.line.new.out (up-few a.record (drop a.past.read a.words.now))
    (calls_at a.words.now a.past _ a.text.now a.record x.result _ c.report.ensures (x.ensures.turn, x.ensures.output))
    c.if-done-read.false (c.line.ensures.place, c.line.ensures.text) in
    let w = z.1 _ c.in-Some.is in
    record { turn = c.told-2.ensures ∙ w.0; text = w.1 }
