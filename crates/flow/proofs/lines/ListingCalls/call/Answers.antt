-- The call of the run into lines is `list_one` with the packet's own record, which is stored again.
use Rattle.std.proofs.Common.{◌≡◌, ◌∙◌, ◌-◌, ap, drop, length, refl, sym}
use borrow.Author.Rules.{rules}
use Rattle.ground.specs.Store.{written}
use Rattle.ump.specs.Packet.{packet}
use Rattle.ump.specs.Word.{place_of}
use Rattle.stream.proofs.SeenLaws.{further-next, left-next, sent-next}
use Rattle.channel.specs.Record.{whole_table}
use Rattle.flow.specs.Kept.{kept, listing}
use Rattle.flow.specs.Listing.{list_up}
use Rattle.flow.proofs.ListLaws.{length-mapped, one-made}
use Rattle.flow.proofs.lines.ListingCalls.call.Goals as goal

pub returns : goal.returns
returns c =
    let a = c.args in
    let t = a.self.now.table.records in
    let ws = a.words.now in
    let d = a.past in
    let long = length a.text.now in
    let k = c.record_place-i in
    let x = c.list_one-listed in
    let whole : length t ≡ whole_table = search (length-mapped, rules) in
    let z = one-made t ws a.text.now d whole k.result _ x.result x.new.text
    (k.ensures.place ∙ ap place_of c.word_at.ensures) k.ensures.inside (x.ensures.turn, x.ensures.text) in
    record {
      report = z.0 ∙ sym (further-next kept list_up listing (λ t s. refl) ws d long t (packet (drop d.read ws)));
      state = ap kept z.1 ∙ sym (left-next kept list_up listing (λ t s. refl) ws d long t (long - d.written));
      output = z.2
          ∙ ap (λ l. written d.written l a.text.now)
          (sym (sent-next kept list_up listing (λ t s. refl) ws d long t));
    }
