-- `text::made::Made::number_then`: the digits, and then the character.
use Rattle.std.proofs.Common.{◌∷◌, [], append_assoc}
use Rattle.text.specs.Lines.{decimal, number_then}
use Rattle.text.proofs.made.Made.number_then.Goals as goal

pub returns-clause-text : goal.returns-clause-text
unfolding number_then
returns-clause-text g c =
    rw (c.byte.ensures.text, c.number.ensures.text)
    (append_assoc c.args.self.now (decimal c.args.n) (c.args.end ∷ []))
