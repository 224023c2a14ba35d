-- `voice::downward::down` meets its contract: no packet is whole, or the one that is has the number of what becomes of
-- it. Assumes nothing.
use mathlib.Core.Path.{sym, ◌∙◌}
use mathlib.Core.Bool.{true≢false}
use borrow.Author.Tests.{eq-eqb}
use Rattle.ump.specs.Word.{voice1}
use Rattle.screen.specs.Screen.{goes_on, screen_by}
use Rattle.screen.proofs.ScreenLaws.{judged-err, judged-ok}
use lib.ListN.{drop}
use Rattle.ump.proofs.PacketLaws.{packet-end, packet-short}
use Rattle.voice.specs.Turn.{next}
use Rattle.voice.proofs.TurnLaws.{next-few}
use Rattle.voice.proofs.DownLaws.{cut-output, cut-told, is-refused, next-length, next-some, none-fit-told}
use Rattle.voice.proofs.DownLaws.{output-told, part-next, part-whole, refused-told, sent-told}
use Rattle.voice.proofs.downward.down.Goals as goal

pub returns-then-words-read : goal.returns-then-words-read
returns-then-words-read c =
    let a = c.args in
    let n = packet-end a.words.now a.past.read c.if-words-read.true in record {
      report = c.report.ensures ∙ cut-told a.rule a.past (next a.words.now a.past) a.out.now n;
      output = cut-output a.rule a.past (next a.words.now a.past) a.out.now n;
    }

pub returns-then-words-read-2 : goal.returns-then-words-read-2
returns-then-words-read-2 c =
    let a = c.args in
    let s = c.size-n in
    let n = packet-short a.words.now a.past.read c.if-words-read.false
    (rw s.ensures at c.if-words-read-2.true) in record {
      report = c.report-then-words-read-2.ensures ∙ cut-told a.rule a.past (next a.words.now a.past) a.out.now n;
      output = cut-output a.rule a.past (next a.words.now a.past) a.out.now n;
    }

pub packet_down-sent-requires : goal.packet_down-sent-requires
packet_down-sent-requires c =
    let a = c.args in
    let s = c.size-n in
    part-whole a.words.now a.past.read s.result s.ensures
    c.if-words-read.false c.if-words-read-2.false

-- a packet that is refused is not let go on by the screening
pub returns-in-Ok : goal.returns-in-Ok
returns-in-Ok c =
    let a = c.args in
    let ws = a.words.now in
    let i = a.past.read in
    let s = c.size-n in
    let h = c.if-words-read.false in
    let k = c.if-words-read-2.false in
    let same = part-next ws i s.result s.ensures h k in
    let e = rw same at c.packet_down-sent.ensures in
    let f = rw same at c.screen_by.ensures in
    let some = next-some ws i s.result s.ensures h k in
    let few = next-few (drop i ws) in
    let found = screen_by a.rule voice1 (next ws a.past) in
    absurd (true≢false (sym (eq-eqb found.answer goes_on (judged-ok found (sym f ∙ c.in-Ok.is)))
    ∙ is-refused a.rule a.past (next ws a.past) a.out.now some few (sym e.number ∙ c.if-sent-eq-REFUSED.true)))

pub returns-in-Err : goal.returns-in-Err
returns-in-Err c =
    let a = c.args in
    let ws = a.words.now in
    let i = a.past.read in
    let s = c.size-n in
    let h = c.if-words-read.false in
    let k = c.if-words-read-2.false in
    let same = part-next ws i s.result s.ensures h k in
    let e = rw same at c.packet_down-sent.ensures in
    let f = rw same at c.screen_by.ensures in
    let some = next-some ws i s.result s.ensures h k in
    let few = next-few (drop i ws) in
    let found = screen_by a.rule voice1 (next ws a.past) in
    let r = judged-err found c.in-Err.refusal (sym f ∙ c.in-Err.is) in
    record {
      report = c.report_place.ensures ∙ rw (r.1.0, r.1.1, ← next-length ws i s.result s.ensures h k)
          (refused-told a.rule a.past (next ws a.past) a.out.now some few
          (sym e.number ∙ c.if-sent-eq-REFUSED.true));
      output = e.output ∙ output-told a.rule a.past (next ws a.past) a.out.now some few;
    }

pub returns-then-sent-eq-NONE_FIT : goal.returns-then-sent-eq-NONE_FIT
returns-then-sent-eq-NONE_FIT c =
    let a = c.args in
    let ws = a.words.now in
    let i = a.past.read in
    let s = c.size-n in
    let h = c.if-words-read.false in
    let k = c.if-words-read-2.false in
    let e = rw (part-next ws i s.result s.ensures h k) at c.packet_down-sent.ensures in
    let some = next-some ws i s.result s.ensures h k in
    let few = next-few (drop i ws) in record {
      report = c.report-then-sent-eq-NONE_FIT.ensures ∙ none-fit-told a.rule a.past (next ws a.past) a.out.now some few
          (sym e.number ∙ c.if-sent-eq-NONE_FIT.true);
      output = e.output ∙ output-told a.rule a.past (next ws a.past) a.out.now some few;
    }

pub returns : goal.returns
returns c =
    let a = c.args in
    let ws = a.words.now in
    let i = a.past.read in
    let s = c.size-n in
    let h = c.if-words-read.false in
    let k = c.if-words-read-2.false in
    let e = rw (part-next ws i s.result s.ensures h k) at c.packet_down-sent.ensures in
    let some = next-some ws i s.result s.ensures h k in
    let few = next-few (drop i ws) in record {
      report = c.report-2.ensures ∙ rw (c.sent_answer.ensures, e.number, ← next-length ws i s.result s.ensures h k)
          (sent-told a.rule a.past (next ws a.past) a.out.now some few
          (λ q. c.if-sent-eq-REFUSED.false (e.number ∙ q)) (λ q. c.if-sent-eq-NONE_FIT.false (e.number ∙ q)));
      output = e.output ∙ output-told a.rule a.past (next ws a.past) a.out.now some few;
    }
