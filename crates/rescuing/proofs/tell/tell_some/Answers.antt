-- `rescuing::tell::tell_some` is the run of the calls that tell.
use Rattle.std.proofs.Common.{◌∙◌, ap, length, refl}
use Rattle.ground.specs.Store.{at_start}
use Rattle.stream.specs.Report.{reported}
use Rattle.stream.proofs.SeenLaws.{whole-seen}
use Rattle.rescuing.specs.declared.tell.Telling.{Telling}
use Rattle.rescuing.specs.Kept.{after, telling}
use Rattle.rescuing.specs.Rescue.{tell}
use Rattle.rescuing.proofs.tell.tell_some.Goals as goal

pub returns : goal.returns
returns c =
    let a = c.args in
    let r = c.run_calls-done.ensures in
    let e = whole-seen after tell telling (λ t s. refl) a.words.now (length a.text.now) a.past in
    record {
      report = r.report ∙ ap reported e;
      past = ap (λ (x : Telling). x.past) (r.state ∙ ap (λ q. q.left.1) e);
      text = r.output ∙ ap (λ q. at_start q.sends a.text.now) e;
    }
