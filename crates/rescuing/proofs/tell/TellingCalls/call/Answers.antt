-- The call of what tells is `tell_next`.
use Rattle.std.proofs.Common.{◌∙◌, ◌-◌, ap, drop, length, refl, sym}
use Rattle.ground.specs.Store.{written}
use Rattle.ump.specs.Packet.{packet}
use Rattle.stream.specs.Call.{within}
use Rattle.stream.proofs.SeenLaws.{further-next, left-next, sent-next}
use Rattle.recording.specs.Recording.{line_of, past_after, text_of}
use Rattle.rescuing.specs.declared.Told.{Told}
use Rattle.rescuing.specs.Kept.{after, telling}
use Rattle.rescuing.specs.Rescue.{tell}
use Rattle.rescuing.proofs.RowLaws.{no_place}
use Rattle.rescuing.proofs.tell.TellingCalls.call.Goals as goal

pub returns : goal.returns
unfolding tell within
returns c =
    let a = c.args in
    let x = a.self.now in
    let ws = a.words.now in
    let d = a.past in
    let long = length a.text.now in
    let p = packet (drop d.read ws) in
    let e = c.tell_next-told.ensures in
    record {
      report = ap (λ (t : Told). t.done) e.turn
          ∙ sym (no_place d p p (text_of (line_of x.past p)) (long - d.written) (past_after x.past p))
          ∙ sym (further-next after tell telling (λ t s. refl) ws d long x.past p);
      state = ap (λ (t : Told). after t.past) e.turn
          ∙ sym (left-next after tell telling (λ t s. refl) ws d long x.past (long - d.written));
      output = e.text
          ∙ ap (λ l. written d.written l a.text.now)
          (sym (sent-next after tell telling (λ t s. refl) ws d long x.past));
    }
