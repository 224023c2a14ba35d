-- `outlet::messages::send_system` meets its contract: each way out is one of the laws of system messages. Assumes
-- nothing.
use mathlib.Core.Path.{sym, ◌∙◌}
use Rattle.outlet.proofs.MessageLaws.{system-alone, system-none, system-one, system-two}
use Rattle.outlet.proofs.RowLaws.{nothing}
use Rattle.outlet.proofs.messages.send_system.Goals as goal

pub returns-then-is_alone : goal.returns-then-is_alone
returns-then-is_alone c =
    let b = c.byte2-b.ensures in
    let a = rw b at (sym c.is_alone.ensures ∙ c.if-is_alone.true) in
    rw (system-alone c.args.w 0 c.requires.0 a, ← b) c.send.ensures

pub returns-then-b : goal.returns-then-b
returns-then-b c =
    let b = sym c.byte2-b.ensures ∙ c.if-b.true in
    rw (system-two c.args.w 0 c.requires.0 b) c.send_with_two.ensures

pub returns-then-b-2 : goal.returns-then-b-2
returns-then-b-2 c =
    let k = rw c.byte2-b.ensures at c.if-b-2.true in
    rw (system-one c.args.w 0 c.requires.0 k) c.send_with_one.ensures

pub returns-else-b-2 : goal.returns-else-b-2
returns-else-b-2 c =
    let b = c.byte2-b.ensures in
    let a = rw b at (sym c.is_alone.ensures ∙ c.if-is_alone.false) in
    let n = rw b at c.if-b.false in
    let k = rw b at c.if-b-2.false in
    nothing _ _ _ (system-none c.args.w 0 c.requires.0 a n k) c.requires.1
