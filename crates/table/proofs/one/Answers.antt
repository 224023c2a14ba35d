-- `table::one` meets its contract: the call with the packet's own record is the call with the table. Assumes nothing.
use Rattle.table.proofs.StepLaws.{replaced, stays, told, wrote}
use Rattle.table.proofs.one.Goals as goal

pub returns-in-Leaves : goal.returns-in-Leaves
returns-in-Leaves c =
    let a = c.args in
    let i = c.place_of-i in
    let s = c.step-s in
    let e = s.ensures.turn in
    record {
      report = told a.job a.words.now a.past a.table.now a.out.now c.requires i.result i.ensures _ s.result e;
      table =
          stays a.job a.words.now a.past a.table.now a.out.now c.requires i.result i.ensures _ s.result e
          c.in-Leaves.is;
      output =
          wrote a.job a.words.now a.past a.table.now a.out.now c.requires i.result i.ensures _ s.result e s.new.out
          s.ensures.output;
    }

pub returns-in_default : goal.returns-in_default
returns-in_default c =
    let a = c.args in
    let i = c.place_of-i in
    let s = c.step-s in
    let e = s.ensures.turn in
    record {
      report = told a.job a.words.now a.past a.table.now a.out.now c.requires i.result i.ensures _ s.result e;
      table =
          replaced a.job a.words.now a.past a.table.now a.out.now c.requires i.result i.ensures _ s.result e
          c.key_of.result c.key_of.ensures c.effected.result c.effected.ensures;
      output =
          wrote a.job a.words.now a.past a.table.now a.out.now c.requires i.result i.ensures _ s.result e s.new.out
          s.ensures.output;
    }
