-- `voice::upward::voice_up` meets its contract: what the screening finds of its one word refuses it, or else whether
-- its
-- record is sound decides between the message and a stop. Assumes nothing.
use mathlib.Core.Path.{refl, sym, ◌∙◌}
use mathlib.Core.Bool.{◌||◌}
use Rattle.channel.specs.Record.{sound}
use Rattle.screen.specs.Screen.{screen_voice1}
use Rattle.screen.proofs.ScreenLaws.{judged-err, judged-ok}
use Rattle.voice.proofs.TurnLaws.{check-refused, may-not-speak, may-speak}
use Rattle.voice.proofs.upward.voice_up.Goals as goal
use Rattle.voice.proofs.upward.voice_up.Goals.{then-known, else-known}

pub returns-then-is_sound : goal.returns-then-is_sound
returns-then-is_sound c =
    let a = c.args in
    let s = screen_voice1 a.rule a.w in
    rw (may-speak a.rule (a.known || sound a.«record») a.past a.w a.«record» a.out.now s
    c.requires.1 refl (judged-ok s (sym c.screen_voice1.ensures ∙ c.in-Ok.is))
    (elim c.if-known.branch [
      | then-known w ↦ rw w.if-known.true (sym w.if-known.true ∙ sym w.value-is ∙ c.if-is_sound.true)
      | else-known w ↦ rw w.if-known.false (sym w.is_sound.ensures ∙ sym w.value-is ∙ c.if-is_sound.true)
    ])) c.speak.ensures

pub returns-else-is_sound : goal.returns-else-is_sound
returns-else-is_sound c =
    let a = c.args in
    let s = screen_voice1 a.rule a.w in
    rw (c.stays.ensures, c.report.ensures)
    (let z = may-not-speak a.rule (a.known || sound a.«record») a.past a.w a.«record» a.out.now s
    c.requires.1 refl (judged-ok s (sym c.screen_voice1.ensures ∙ c.in-Ok.is))
    (elim c.if-known.branch [
      | then-known w ↦ rw w.if-known.true (sym w.if-known.true ∙ sym w.value-is ∙ c.if-is_sound.false)
      | else-known w ↦ rw w.if-known.false (sym w.is_sound.ensures ∙ sym w.value-is ∙ c.if-is_sound.false)
    ]) in
    record { turn = z.0; output = z.1 })

pub returns-in-Err : goal.returns-in-Err
returns-in-Err c =
    let a = c.args in
    let s = screen_voice1 a.rule a.w in
    let r = judged-err s c.in-Err.refusal (sym c.screen_voice1.ensures ∙ c.in-Err.is) in
    let z = check-refused a.rule (a.known || sound a.«record») a.past a.w a.«record» a.out.now s c.requires.1 refl r.0 in
    rw (c.stays-in-Err.ensures, c.refuse.ensures, r.1.0, r.1.1) record { turn = z.0; output = z.1 }
