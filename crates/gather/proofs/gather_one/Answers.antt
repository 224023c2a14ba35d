-- `gather::gather_one`: there is no room for every line, or the packet is cut, or its call is made and its line fits.
use mathlib.Core.Path.{sym, ap, ◌∙◌}
use native.Mathlib.Omega.{arith}
use lib.ListN.{drop, length-drop}
use Rattle.tally.specs.Tally.{counted}
use Rattle.gather.specs.Gather.{held_in}
use Rattle.gather.proofs.GatherLaws.{at_cut, at-full, at_one, few-read, line-placed, rest_part, stands}
use Rattle.gather.proofs.gather_one.Goals as goal

pub returns-then-is_full : goal.returns-then-is_full
returns-then-is_full c =
    let a = c.args in
    let z = at-full (held_in a.collector.now a.buffer.now) (drop a.past.read a.words.now) a.text.now a.past
    (sym c.is_full.ensures ∙ c.if-is_full.true) in
    record { report = c.report.ensures ∙ z.0; held = z.1; text = z.2 }

pub returns-then-one-eq0 : goal.returns-then-one-eq0
returns-then-one-eq0 c =
    let a = c.args in
    let e = c.collect-turn.ensures in
    let er = rw (rest_part a.past.read a.words.now) at e.report in
    let es = rw (rest_part a.past.read a.words.now) at e.chains in
    let eb = rw (rest_part a.past.read a.words.now) at e.buffer in
    let z = at_cut (held_in a.collector.now a.buffer.now)
    (drop a.past.read a.words.now) a.text.now a.past _ _ _ er es eb
    (sym c.is_full.ensures ∙ c.if-is_full.false) c.if-one-eq0.true in
    record { report = c.report-then-one-eq0.ensures ∙ z.0; held = z.1; text = z.2 }

pub put_line-requires : goal.put_line-requires
put_line-requires c =
    let a = c.args in
    let er = rw (rest_part a.past.read a.words.now) at c.collect-turn.ensures.report in
    λ h. omega (
      arith,
      stands a.collector.now.chains a.buffer.now (drop a.past.read a.words.now) c.collect-turn.result.report er h,
      c.collect-turn.auto.buffer,
    )

pub unwrap-end-requires : goal.unwrap-end-requires
unwrap-end-requires c =
    let a = c.args in
    let e = c.collect-turn.ensures in
    let er = rw (rest_part a.past.read a.words.now) at e.report in
    let eb = rw (rest_part a.past.read a.words.now) at e.buffer in
    let p = rw e.dropped at c.put_line.ensures in
    line-placed (held_in a.collector.now a.buffer.now) (drop a.past.read a.words.now) a.text.now a.past _ _ _ er eb
    (sym c.is_full.ensures ∙ c.if-is_full.false) p.place

pub overflow_add-read : goal.overflow_add-read
overflow_add-read c =
    let a = c.args in
    let er = rw (rest_part a.past.read a.words.now) at c.collect-turn.ensures.report in
    omega (
      arith,
      few-read a.collector.now.chains a.buffer.now (drop a.past.read a.words.now) c.collect-turn.result.report er,
      length-drop a.past.read a.words.now,
      c.requires,
    )

pub returns : goal.returns
returns c =
    let a = c.args in
    let e = c.collect-turn.ensures in
    let er = rw (rest_part a.past.read a.words.now) at e.report in
    let es = rw (rest_part a.past.read a.words.now) at e.chains in
    let eb = rw (rest_part a.past.read a.words.now) at e.buffer in
    let m = c.add.ensures ∙ ap (counted a.collector.now.counts.times) c.sort_of.ensures in
    let p = rw e.dropped at c.put_line.ensures in
    let z = at_one (held_in a.collector.now a.buffer.now)
    (drop a.past.read a.words.now) a.text.now a.past _ _ _ _ _ _ _ er es eb
    (sym c.is_full.ensures ∙ c.if-is_full.false) c.if-one-eq0.false
    (sym c.unwrap-end.ensures ∙ p.place, p.text) m c.report-2.ensures in
    record { report = z.0; held = z.1; text = z.2 }
