-- `outlet::messages::send_voice` meets its contract: each way out is one of the laws of voice messages. Assumes
-- nothing.
use mathlib.Core.Path.{sym, ◌∙◌}
use Rattle.outlet.proofs.MessageLaws.{voice-none, voice-one, voice-two}
use Rattle.outlet.proofs.RowLaws.{nothing}
use Rattle.outlet.proofs.messages.send_voice.Goals as goal

pub returns-then-s : goal.returns-then-s
returns-then-s c =
    let good = sym c.is_voice1_status.ensures ∙ c.if-is_voice1_status.true in
    let short = rw c.status-s.ensures at c.if-s.true in
    rw (voice-one c.args.w 0 c.requires.0 good short) c.send_with_one.ensures

pub returns-else-s : goal.returns-else-s
returns-else-s c =
    let good = sym c.is_voice1_status.ensures ∙ c.if-is_voice1_status.true in
    let long = rw c.status-s.ensures at c.if-s.false in
    rw (voice-two c.args.w 0 c.requires.0 good long) c.send_with_two.ensures

pub returns-else-is_voice1_status : goal.returns-else-is_voice1_status
returns-else-is_voice1_status c =
    let bad = sym c.is_voice1_status.ensures ∙ c.if-is_voice1_status.false in
    nothing _ _ _ (voice-none c.args.w 0 c.requires.0 bad) c.requires.1
