-- `voice::downward::store` meets its contract: what `put` answers is whether the words fit. Assumes nothing.
use mathlib.Core.Path.{sym, ◌∙◌}
use Rattle.voice.proofs.PutLaws.{words-length}
use Rattle.voice.proofs.downward.store.Goals as goal

pub returns-then-put : goal.returns-then-put
returns-then-put c =
    let p = c.put.ensures in
    record {
      number = rw (sym p.answer ∙ c.if-put.true) (sym (words-length c.args.words c.requires));
      output = p.output;
    }
