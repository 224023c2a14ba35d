-- The call of a run of the desk is `show_next`, and the units stay.
use Rattle.std.proofs.Common.{◌∙◌, ◌-◌, ap, drop, length, refl, sym}
use Rattle.ground.specs.Store.{written}
use Rattle.ump.specs.Packet.{packet}
use Rattle.stream.specs.Calls.{next_call}
use Rattle.stream.proofs.SeenLaws.{further-next, left-next, sent-next}
use Rattle.display.specs.declared.DeskAndReport.{DeskAndReport}
use Rattle.display.specs.Run.{show}
use Rattle.display.specs.Showing.{kept, showing}
use Rattle.display.proofs.ShowLaws.{left-same}
use Rattle.display.proofs.run.ShowingCalls.call.Goals as goal

pub returns : goal.returns
returns c =
    let a = c.args in
    let x = a.self.now in
    let ws = a.words.now in
    let d = a.past in
    let long = length a.text.now in
    let e = c.show_next-shown.ensures in
    record {
      report = ap (λ (y : DeskAndReport). y.done) e.turn
          ∙ sym (further-next (kept x.units) (show x.units) showing (λ t s. refl) ws d long x.desk
          (packet (drop d.read ws)));
      state = ap (λ (y : DeskAndReport). kept x.units y.desk) e.turn
          ∙ ap (kept x.units) (left-same x.desk 0 (long - d.written) (next_call (show x.units) ws d long x.desk))
          ∙ sym (left-next (kept x.units) (show x.units) showing (λ t s. refl) ws d long x.desk (long - d.written));
      output = e.text
          ∙ ap (λ l. written d.written l a.text.now)
          (sym (sent-next (kept x.units) (show x.units) showing (λ t s. refl) ws d long x.desk));
    }
