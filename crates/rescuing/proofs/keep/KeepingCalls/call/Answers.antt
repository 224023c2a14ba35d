-- The call of what keeps is `keep_next`.
use Rattle.std.proofs.Common.{◌∙◌, ◌-◌, ap, drop, length, refl, sym}
use Rattle.ground.specs.Store.{written}
use Rattle.ump.specs.Packet.{packet}
use Rattle.stream.proofs.SeenLaws.{further-next, left-next, sent-next}
use Rattle.rescuing.specs.Kept.{keeping}
use Rattle.rescuing.specs.Rescue.{keep}
use Rattle.rescuing.proofs.keep.KeepingCalls.call.Goals as goal

pub returns : goal.returns
returns c =
    let a = c.args in
    let x = a.self.now in
    let ws = a.words.now in
    let d = a.past in
    let long = length a.out.now in
    let e = c.keep_next.ensures in
    record {
      report = e.report ∙ sym (further-next (λ _. x) keep keeping (λ t s. refl) ws d long tt (packet (drop d.read ws)));
      state = sym (left-next (λ _. x) keep keeping (λ t s. refl) ws d long tt (long - d.written));
      output = e.output
          ∙ ap (λ l. written d.written l a.out.now) (sym (sent-next (λ _. x) keep keeping (λ t s. refl) ws d long tt));
    }
