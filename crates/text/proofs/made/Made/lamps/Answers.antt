-- `text::panel::Made::lamps`: one more lamp behind those of the keys below, and all of them behind what stood there.
use Rattle.std.proofs.Common.{◌≡◌, arith, refl, replicate}
use borrow.Author.Rules.{rules}
use Rattle.text.proofs.LampLaws.{lamps_more, lamps_none, lamps_whole}
use Rattle.text.proofs.made.Made.lamps.Goals as goal

pub loop-key-init : goal.loop-key-init
loop-key-init g c = (refl, lamps_none _ _)

pub loop-key-preserved : goal.loop-key-preserved
loop-key-preserved g c =
    let l = c.loop-key in (
      search rules,
      rw (c.lamp.ensures, c.is_down.ensures, l.invariant.1) (lamps_more (replicate 128 0) c.args.keys l.key),
    )

pub returns-clause-text : goal.returns-clause-text
returns-clause-text g c =
    let l = c.loop-key in
    let all : l.key ≡ 128 = omega arith in
    rw (c.row.ensures.text, l.invariant.1, all, lamps_whole (replicate 128 0) c.args.keys refl)
