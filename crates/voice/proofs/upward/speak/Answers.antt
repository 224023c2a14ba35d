-- `voice::upward::speak` meets its contract: a message sends two words, or has no room for them, or is taken in.
-- Assumes nothing.
use native.Mathlib.Omega.{arith}
use native.Mathlib.Numerals.{unary_clauses}
use Rattle.voice.proofs.TurnLaws.{message-sent}
use Rattle.voice.proofs.upward.speak.Goals as goal

pub returns-else-saturating_sub-lt2 : goal.returns-else-saturating_sub-lt2
returns-else-saturating_sub-lt2 c =
    let a = c.args in
    let m = c.lifted-message in
    let z = message-sent a.past a.w a.«record» a.out.now m.result m.ensures _ c.in-Some.is
    (omega (arith, c.if-saturating_sub-lt2.false, c.saturating_sub.ensures)) (omega (
      arith,
      c.if-saturating_sub-lt2.false,
      c.saturating_sub.ensures,
    )) in
    rw (c.acts.ensures, c.report-in-Some.ensures) record {
      turn = z.0;
      output = simp unary_clauses z.1;
    }
