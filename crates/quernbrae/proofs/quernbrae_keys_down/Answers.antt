-- `quernbrae::quernbrae_keys_down` meets its contract: it is what is told of the record at the asked place. Assumes nothing.
use Rattle.question.specs.Question.{keys_asked}
use Rattle.quernbrae.proofs.quernbrae_keys_down.Goals as goal

pub returns : goal.returns
unfolding keys_asked
returns c = rw (c.record_at-record.ensures, c.place_asked.ensures) at c.keys_told.ensures
