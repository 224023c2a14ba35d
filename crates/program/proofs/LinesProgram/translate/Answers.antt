-- `program::Lines`: the run reads no more words than it is given, and its lines are no longer than the text. Assumes
-- nothing.
use Rattle.std.proofs.Common.{length}
use Rattle.flow.proofs.BoundLaws.{lines-bounds}
use Rattle.program.proofs.LinesProgram.translate.Goals as goal

pub returns : goal.returns
returns c =
    let a = c.args in
    let u = c.list_some-lines in
    let z = lines-bounds (length a.text.now) a.table.records a.words.now a.text.now u.new.text u.result.done u.auto.text
    u.ensures.report u.ensures.lines in
    record { read = z.0; bytes = z.1 }
