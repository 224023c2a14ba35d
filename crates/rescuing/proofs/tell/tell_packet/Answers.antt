-- `rescuing::tell::tell_packet`: nothing is said and nothing put, or what is said is put where it has room.
use Rattle.std.proofs.Common.{Some}
use Rattle.recording.specs.Recording.{text_of}
use Rattle.recording.proofs.LineLaws.{said-some}
use Rattle.rescuing.proofs.RowLaws.{said-put}
use Rattle.rescuing.proofs.tell.tell_packet.Goals as goal

pub returns-in-Some-put-clause-text : goal.returns-in-Some-put-clause-text
returns-in-Some-put-clause-text c =
    let a = c.args in
    let l = c.in-Some.line in
    rw (← c.in-Some.ensures)
    (said-put a.text.now c.put.new.text (text_of (Some l)) a.told.done.written c.in-Some-put.end _ (said-some l)
    c.in-Some-put.ensures.place c.put.ensures.text)
