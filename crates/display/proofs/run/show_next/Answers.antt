-- `display::run::show_next`: a refused packet leaves the desk, a sound one is heard, and its line is written where it
-- is
-- another. Assumes nothing.
use mathlib.Core.Path.{refl, sym, ap, ◌∙◌}
use native.Mathlib.Omega.{arith}
use lib.ListN.{drop, length, length-drop}
use Rattle.ump.proofs.PacketLaws.{packet-length}
use Rattle.screen.specs.Screen.{neither_type, screen}
use Rattle.screen.proofs.ScreenLaws.{judged-err, judged-ok}
use Rattle.stream.specs.Call.{within}
use Rattle.display.specs.Run.{show}
use Rattle.display.proofs.ShowLaws.{at-line, at-refused, at_same}
use Rattle.display.proofs.run.show_next.Goals as goal

pub overflow_add-next : goal.overflow_add-next
overflow_add-next c =
    let a = c.args in
    let s = drop a.past.read a.words.now in
    record {
      fits = omega (arith, ap length c.packet_at-packet.ensures, packet-length s, length-drop a.past.read a.words.now);
    }

pub returns-in-Err : goal.returns-in-Err
unfolding show within
returns-in-Err c =
    let p = c.packet_at-packet in
    let a = c.args in
    let s = screen neither_type p.result.now in
    let r = judged-err s c.in-Err.refusal (sym c.screen.ensures ∙ c.in-Err.is) in
    let z = at-refused a.units a.past a.desk p.result.now a.text.now s refl r.0 in
    rw (← p.ensures) record {
      turn = rw (c.report_place-done.ensures, r.1.0, r.1.1) z.0;
      text = z.1;
    }

pub returns-then-is_same_picture : goal.returns-then-is_same_picture
unfolding show within
returns-then-is_same_picture c =
    let goes = judged-ok (screen neither_type c.packet_at-packet.result.now) (sym c.screen.ensures ∙ c.in-Ok.is) in
    let p = c.packet_at-packet in
    let a = c.args in
    let s = rw c.hear-after.ensures at (sym c.is_same_picture.ensures ∙ c.if-is_same_picture.true) in
    let z = at_same a.units a.past a.desk p.result.now a.text.now goes s in
    rw (← p.ensures) record {
      turn = rw (c.hear-after.ensures, c.report-done.ensures) z.0;
      text = z.1;
    }

pub returns-in_default : goal.returns-in_default
unfolding show within
returns-in_default c =
    let goes = judged-ok (screen neither_type c.packet_at-packet.result.now) (sym c.screen.ensures ∙ c.in-Ok.is) in
    let p = c.packet_at-packet in
    let a = c.args in
    let s = rw c.hear-after.ensures at (sym c.is_same_picture.ensures ∙ c.if-is_same_picture.false) in
    let z = (at-line a.units a.past a.desk p.result.now a.text.now goes s _ _
    (rw c.hear-after.ensures at c.line.ensures.place, rw c.hear-after.ensures at c.line.ensures.text)).0
    c.in_default.is in
    rw (← p.ensures) record {
      turn = rw c.report-done-in_default.ensures z.0;
      text = z.1;
    }

pub returns-in-Some : goal.returns-in-Some
unfolding show within
returns-in-Some c =
    let goes = judged-ok (screen neither_type c.packet_at-packet.result.now) (sym c.screen.ensures ∙ c.in-Ok.is) in
    let p = c.packet_at-packet in
    let a = c.args in
    let s = rw c.hear-after.ensures at (sym c.is_same_picture.ensures ∙ c.if-is_same_picture.false) in
    let z = (at-line a.units a.past a.desk p.result.now a.text.now goes s _ _
    (rw c.hear-after.ensures at c.line.ensures.place, rw c.hear-after.ensures at c.line.ensures.text)).1 _
    c.in-Some.is in
    rw (← p.ensures) record {
      turn = rw (c.hear-after.ensures, c.report-done-in-Ok.ensures) z.0;
      text = z.1;
    }
