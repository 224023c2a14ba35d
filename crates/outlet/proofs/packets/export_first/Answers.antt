-- `outlet::packets::export_first` meets its contract: each way out is one of the laws of a call alone. Assumes nothing.
use mathlib.Core.Path.{sym, ◌∙◌}
use native.Mathlib.Omega.{arith}
use Rattle.ump.specs.Packet.{packet}
use Rattle.ump.proofs.PacketLaws.{packet-end, size-by}
use Rattle.stream.specs.Call.{within}
use Rattle.outlet.specs.Outlet.{step_out}
use Rattle.outlet.proofs.StepLaws.{alone-cut, first-cut, first_one, first-other, first_two, third}
use Rattle.outlet.proofs.packets.export_first.Goals as goal

pub returns-then-words-eq0 : goal.returns-then-words-eq0
unfolding within step_out
returns-then-words-eq0 c =
    let a = c.args in
    let z = alone-cut a.group (packet a.words.now) a.out.now
    (packet-end a.words.now 0 (omega (arith, c.if-words-eq0.true))) in
    record {
      report = c.report.ensures ∙ z.0;
      output = z.1;
    }

pub returns-then-t-eq-MIDI1_VOICE : goal.returns-then-t-eq-MIDI1_VOICE
unfolding within step_out
returns-then-t-eq-MIDI1_VOICE c =
    let a = c.args in
    let o = sym c.is_ours.ensures ∙ c.if-is_ours.true in
    let t = sym c.message_type-t.ensures ∙ c.if-t-eq-MIDI1_VOICE.true in
    let z = first_one a.group a.words.now a.out.now (omega (arith, c.if-words-eq0.false)) (size-by _ 2 t) o _ _
    c.send_voice.ensures in
    record {
      report = c.told_alone.ensures ∙ z.0;
      output = z.1;
    }

pub returns-then-t-eq-SYSTEM : goal.returns-then-t-eq-SYSTEM
unfolding within step_out
returns-then-t-eq-SYSTEM c =
    let a = c.args in
    let o = sym c.is_ours.ensures ∙ c.if-is_ours.true in
    let t = sym c.message_type-t.ensures ∙ c.if-t-eq-SYSTEM.true in
    let z = first_one a.group a.words.now a.out.now (omega (arith, c.if-words-eq0.false)) (size-by _ 1 t) o _ _
    c.send_system.ensures in
    record {
      report = c.told_alone-then-t-eq-SYSTEM.ensures ∙ z.0;
      output = z.1;
    }

pub returns-then-words-lt-EXCLUSIVE_WORDS : goal.returns-then-words-lt-EXCLUSIVE_WORDS
unfolding within step_out
returns-then-words-lt-EXCLUSIVE_WORDS c =
    let a = c.args in
    let o = sym c.is_ours.ensures ∙ c.if-is_ours.true in
    let t = c.message_type-t.ensures in
    let two = rw t at c.if-t-eq-MIDI1_VOICE.false in
    let one = rw t at c.if-t-eq-SYSTEM.false in
    let n = size-by _ 3 (third a.group _ o two one) in
    let z = first-cut a.group a.words.now a.out.now (omega (arith, c.if-words-eq0.false))
    (rw n c.if-words-lt-EXCLUSIVE_WORDS.true) in
    record {
      report = c.report-then-words-lt-EXCLUSIVE_WORDS.ensures ∙ z.0;
      output = z.1;
    }

pub returns-then-is_ours : goal.returns-then-is_ours
unfolding within step_out
returns-then-is_ours c =
    let a = c.args in
    let o = sym c.is_ours.ensures ∙ c.if-is_ours.true in
    let t = c.message_type-t.ensures in
    let two = rw t at c.if-t-eq-MIDI1_VOICE.false in
    let one = rw t at c.if-t-eq-SYSTEM.false in
    let n = size-by _ 3 (third a.group _ o two one) in
    let z = first_two a.group a.words.now a.out.now (omega (arith, c.if-words-eq0.false)) n c.if-words-lt-EXCLUSIVE_WORDS.false o _ _
    c.send_exclusive.ensures in
    record {
      report = c.told_alone-then-is_ours.ensures ∙ z.0;
      output = z.1;
    }

pub returns-then-words-n : goal.returns-then-words-n
unfolding within step_out
returns-then-words-n c =
    let a = c.args in
    let z = first-cut a.group a.words.now a.out.now (omega (arith, c.if-words-eq0.false))
    (rw c.size-n.ensures at c.if-words-n.true) in
    record {
      report = c.report-then-words-n.ensures ∙ z.0;
      output = z.1;
    }

pub returns-else-words-n : goal.returns-else-words-n
unfolding within step_out
returns-else-words-n c =
    let a = c.args in
    let n = c.size-n.ensures in
    let o = sym c.is_ours.ensures ∙ c.if-is_ours.false in
    let z = first-other a.group a.words.now a.out.now (omega (arith, c.if-words-eq0.false))
    (rw n at c.if-words-n.false) o in
    record {
      report = rw (n, c.other_answer.ensures) at c.report-else-words-n.ensures ∙ z.0;
      output = z.1;
    }
