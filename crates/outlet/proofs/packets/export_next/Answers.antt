-- `outlet::packets::export_next` meets its contract: each way out is one of the laws of a packet in a run. Assumes
-- nothing.
use mathlib.Core.Path.{sym, ◌∙◌}
use Rattle.stream.specs.Call.{within}
use Rattle.outlet.specs.Outlet.{step_out}
use Rattle.ump.proofs.PacketLaws.{size-by}
use Rattle.outlet.proofs.StepLaws.{next-cut, next_one, next-other, next-two, third}
use Rattle.outlet.proofs.packets.export_next.Goals as goal

pub returns-then-t-eq-MIDI1_VOICE : goal.returns-then-t-eq-MIDI1_VOICE
unfolding within step_out
returns-then-t-eq-MIDI1_VOICE c =
    let a = c.args in
    let o = sym c.is_ours.ensures ∙ c.if-is_ours.true in
    let t = sym c.message_type-t.ensures ∙ c.if-t-eq-MIDI1_VOICE.true in
    let z = next_one a.group a.read a.to a.words.now a.out.now c.requires.0 (size-by _ 2 t) o _ _
    c.send_voice.ensures in
    record {
      report = c.passed.ensures ∙ z.0;
      output = z.1;
    }

pub returns-then-t-eq-SYSTEM : goal.returns-then-t-eq-SYSTEM
unfolding within step_out
returns-then-t-eq-SYSTEM c =
    let a = c.args in
    let o = sym c.is_ours.ensures ∙ c.if-is_ours.true in
    let t = sym c.message_type-t.ensures ∙ c.if-t-eq-SYSTEM.true in
    let z = next_one a.group a.read a.to a.words.now a.out.now c.requires.0 (size-by _ 1 t) o _ _
    c.send_system.ensures in
    record {
      report = c.passed-then-t-eq-SYSTEM.ensures ∙ z.0;
      output = z.1;
    }

pub returns-then-words-read-lt-EXCLUSIVE_WORDS : goal.returns-then-words-read-lt-EXCLUSIVE_WORDS
unfolding within step_out
returns-then-words-read-lt-EXCLUSIVE_WORDS c =
    let a = c.args in
    let o = sym c.is_ours.ensures ∙ c.if-is_ours.true in
    let t = c.message_type-t.ensures in
    let two = rw t at c.if-t-eq-MIDI1_VOICE.false in
    let one = rw t at c.if-t-eq-SYSTEM.false in
    let n = size-by _ 3 (third a.group _ o two one) in
    let z = next-cut a.group a.read a.to a.words.now a.out.now c.requires.0
    (rw n c.if-words-read-lt-EXCLUSIVE_WORDS.true) in
    record {
      report = c.report.ensures ∙ z.0;
      output = z.1;
    }

pub returns-then-is_ours : goal.returns-then-is_ours
unfolding within step_out
returns-then-is_ours c =
    let a = c.args in
    let o = sym c.is_ours.ensures ∙ c.if-is_ours.true in
    let t = c.message_type-t.ensures in
    let two = rw t at c.if-t-eq-MIDI1_VOICE.false in
    let one = rw t at c.if-t-eq-SYSTEM.false in
    let n = size-by _ 3 (third a.group _ o two one) in
    let z = next-two a.group a.read a.to a.words.now a.out.now c.requires.0 n c.if-words-read-lt-EXCLUSIVE_WORDS.false o _ _
    c.send_exclusive.ensures in
    record {
      report = c.passed-then-is_ours.ensures ∙ z.0;
      output = z.1;
    }

pub returns-then-words-read : goal.returns-then-words-read
unfolding within step_out
returns-then-words-read c =
    let a = c.args in
    let z = next-cut a.group a.read a.to a.words.now a.out.now c.requires.0
    (rw c.size-n.ensures at c.if-words-read.true) in
    record {
      report = c.report-then-words-read.ensures ∙ z.0;
      output = z.1;
    }

pub returns-else-words-read : goal.returns-else-words-read
unfolding within step_out
returns-else-words-read c =
    let a = c.args in
    let n = c.size-n.ensures in
    let o = sym c.is_ours.ensures ∙ c.if-is_ours.false in
    let z = next-other a.group a.read a.to a.words.now a.out.now c.requires.0
    (rw n at c.if-words-read.false) o in
    record {
      report = rw n at c.report-else-words-read.ensures ∙ z.0;
      output = z.1;
    }
