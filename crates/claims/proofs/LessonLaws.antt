-- The lesson run is the run up from its table. Assumes nothing.
use mathlib.Core.Path.{refl}
use Rattle.mark.specs.Lesson.{marked_table}
use Rattle.mark.proofs.LessonLaws.{marked_empty}
use Rattle.lesson.specs.Lesson.{lesson}
use Rattle.lesson.proofs.LessonLaws.{numbered}
use Rattle.claims.specs.Lessons.{Lessons}
use Rattle.claims.proofs.RoundTrip.{proved-round-trip}
use Rattle.claims.proofs.SoundnessLaws.{proved-soundness}

pub proved-lessons : Lessons
unfolding lesson
proved-lessons =
    record {
      answers = λ room coarse s. numbered room s coarse;
      reads = λ room coarse s. refl;
      sends = λ room coarse s. refl;
      sounds = λ coarse. proved-soundness.marked (marked_table coarse) (marked_empty coarse);
      returns = λ coarse. proved-round-trip.marked (marked_table coarse) (marked_empty coarse);
    }
