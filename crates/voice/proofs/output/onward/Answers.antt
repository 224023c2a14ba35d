-- `voice::output::onward`: the screening decides between the packet's own words and a refusal.
use mathlib.Core.Path.{refl, sym, ◌∙◌}
use Rattle.stream.specs.Answers.{sent}
use Rattle.stream.specs.Call.{went}
use Rattle.screen.specs.Screen.{screen_by}
use Rattle.screen.proofs.ScreenLaws.{judged-err, judged-ok}
use Rattle.voice.proofs.TurnLaws.{passed-comes, refused-comes, sent-comes}
use Rattle.voice.proofs.output.onward.Goals as goal

pub returns-in-Ok : goal.returns-in-Ok
returns-in-Ok c =
    let a = c.args in
    let p = a.packet.now in
    let s = screen_by a.rule a.wrong p in
    let g = judged-ok s (sym c.screen_by.ensures ∙ c.in-Ok.is) in
    let z = c.send.ensures in
    let k = passed-comes a.past p a.out.now _ _ a.rule a.wrong s refl (went sent p tt) g
    (sent-comes a.past p a.out.now _ _ c.same_words.result p c.same_words.ensures c.requires.0 z.report z.output) in
    record { report = k.0; output = k.1 }

pub returns-in-Err : goal.returns-in-Err
returns-in-Err c =
    let a = c.args in
    let p = a.packet.now in
    let s = screen_by a.rule a.wrong p in
    let r = judged-err s c.in-Err.refusal (sym c.screen_by.ensures ∙ c.in-Err.is) in
    let k = refused-comes a.past p a.out.now _ _ a.rule a.wrong s refl (went sent p tt) r.0
    (c.refuse.ensures ∙ rw (r.1.0, r.1.1)) refl in
    record { report = k.0; output = k.1 }
