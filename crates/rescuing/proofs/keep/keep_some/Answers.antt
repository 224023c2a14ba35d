-- `rescuing::keep::keep_some` is the run of the calls that keep.
use Rattle.std.proofs.Common.{◌∙◌, ap, length, refl}
use Rattle.ground.specs.Store.{at_start}
use Rattle.stream.specs.Report.{reported}
use Rattle.stream.proofs.SeenLaws.{whole-seen}
use Rattle.rescuing.specs.declared.keep.Keeping.{Keeping}
use Rattle.rescuing.specs.Kept.{keeping}
use Rattle.rescuing.specs.Rescue.{keep}
use Rattle.rescuing.proofs.keep.keep_some.Goals as goal

pub returns : goal.returns
returns c =
    let a = c.args in
    let r = c.run_calls.ensures in
    let x : Keeping = record {} in
    let e = whole-seen (λ _. x) keep keeping (λ t s. refl) a.words.now (length a.out.now) tt in
    record {
      report = r.report ∙ ap reported e;
      output = r.output ∙ ap (λ q. at_start q.sends a.out.now) e;
    }
