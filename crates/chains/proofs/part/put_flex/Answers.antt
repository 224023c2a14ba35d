-- `chains::part::put_flex`: three words, one after another.
use Rattle.chains.proofs.PutLaws.{twelve}
use Rattle.chains.proofs.part.put_flex.Goals as goal

pub returns : goal.returns
returns c =
    let a = c.args in
    rw (
      c.put_word-3.ensures,
      c.put_word-2.ensures,
      c.put_word.ensures,
    ) (twelve a.part.now a.base _ _ _ _ _ _ _ _ _ _ _ _ c.requires.0)
