-- `display::run::show_some`: the run of what the code keeps of the desk is the run of the desk.
use Rattle.std.proofs.Common.{◌∙◌, ap, length, refl}
use Rattle.ground.specs.Store.{at_start}
use Rattle.stream.specs.Report.{reported}
use Rattle.stream.proofs.SeenLaws.{whole-seen}
use Rattle.display.specs.Run.{run_shown, show}
use Rattle.display.specs.declared.run.Showing.{Showing}
use Rattle.display.specs.Showing.{kept, showing}
use Rattle.display.proofs.run.show_some.Goals as goal

pub returns : goal.returns
unfolding run_shown
returns c =
    let a = c.args in
    let r = c.run_calls-done.ensures in
    let e = whole-seen (kept a.units) (show a.units) showing (λ d s. refl) a.words.now (length a.text.now) a.desk in
    record {
      report = r.report ∙ ap reported e;
      desk = ap (λ (x : Showing). x.desk) (r.state ∙ ap (λ q. q.left.1) e);
      lines = r.output ∙ ap (λ q. at_start q.sends a.text.now) e;
      read = r.inside;
    }
