-- `figures::exactly` meets its contract: the claim is proved in proofs/FigureLaws.antt. Assumes nothing.
use Rattle.figures.proofs.FigureLaws.{proved-exactly}
use Rattle.figures.proofs.exactly.Goals as goal

pub returns : goal.returns
returns c =
    proved-exactly
