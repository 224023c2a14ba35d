-- The call of a pick is `pick_next`, and the channel stays.
use Rattle.std.proofs.Common.{refl, sym, ◌∙◌, ap, length, drop, ◌-◌}
use Rattle.ground.specs.Store.{written}
use Rattle.ump.specs.Packet.{packet}
use Rattle.stream.proofs.SeenLaws.{further-next, left-next, sent-next}
use Rattle.pupil.specs.Only.{pick}
use Rattle.pupil.specs.Picking.{picking}
use Rattle.pupil.proofs.PupilCalls.call.Goals as goal

pub returns : goal.returns
returns c =
    let a = c.args in
    let x = a.self.now in
    let ws = a.words.now in
    let d = a.past in
    let e = c.pick_next.ensures in
    record {
      report = e.report
          ∙ sym (further-next (λ _. x) (pick x.group x.channel) picking (λ t s. refl) ws d (length a.out.now) tt
          (packet (drop d.read ws)));
      state = sym (left-next (λ _. x) (pick x.group x.channel) picking (λ t s. refl) ws d (length a.out.now) tt
          (length a.out.now - d.written));
      output = e.output
          ∙ ap (λ l. written d.written l a.out.now)
          (sym (sent-next (λ _. x) (pick x.group x.channel) picking (λ t s. refl) ws d (length a.out.now) tt));
    }
