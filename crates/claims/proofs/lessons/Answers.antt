-- `claims::lessons` meets its contract: the claim is proved in proofs/LessonLaws.antt.
use Rattle.claims.proofs.LessonLaws.{proved-lessons}
use Rattle.claims.proofs.lessons.Goals as goal

pub returns : goal.returns
returns c = proved-lessons
