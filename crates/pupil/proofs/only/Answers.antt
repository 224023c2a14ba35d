-- `pupil::only`: the group and the channel are asked for first, and then the run is that of the picks.
use mathlib.Core.Path.{refl, sym, ap, ◌∙◌}
use Rattle.std.proofs.Common.{length}
use Rattle.ground.specs.Store.{at_start}
use Rattle.stream.specs.Report.{reported}
use Rattle.stream.proofs.SeenLaws.{whole-seen}
use Rattle.pupil.specs.declared.Pupil.{Pupil}
use Rattle.pupil.specs.Only.{pick}
use Rattle.pupil.specs.Only as Only
use Rattle.pupil.specs.Picking.{picking}
use Rattle.pupil.proofs.only.Goals as goal

pub returns-then-is_in_range : goal.returns-then-is_in_range
unfolding Only.only
returns-then-is_in_range c =
    let a = c.args in
    let x : Pupil = record { group = a.group; channel = a.channel } in
    let e = whole-seen (λ _. x) (pick a.group a.channel) picking (λ t s. refl) a.words.now (length a.out.now) tt in
    rw (sym c.is_in_range.ensures ∙ c.if-is_in_range.true) record {
      report = c.run_calls.ensures.report ∙ ap reported e;
      output = c.run_calls.ensures.output ∙ ap (λ r. at_start r.sends a.out.now) e;
    }

pub returns-else-is_in_range : goal.returns-else-is_in_range
unfolding Only.only
returns-else-is_in_range c = rw (sym c.is_in_range.ensures ∙ c.if-is_in_range.false) record {
  report = c.report.ensures;
  output = refl;
}
