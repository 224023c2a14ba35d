-- `voice::downward::run_down` meets its contract: the loop's invariant is that what was done, and then the
-- run from here, is the whole run. The measure is the words left. Assumes nothing.
use mathlib.Core.Path.{◌∙◌}
use native.Mathlib.Omega.{arith}
use lib.ListN.{get_or}
use Rattle.ump.proofs.PacketLaws.{size-range}
use Rattle.stream.proofs.RunLoop.{finish, reports, start}
use Rattle.voice.specs.Packet.{call_down_by, run_down_by}
use Rattle.voice.proofs.PacketLaws.{down-inside, down-near}
use Rattle.voice.proofs.DownLaws.{part-whole}
use Rattle.voice.proofs.DownLoop.{cut-stops, full-stops, moves}
use Rattle.voice.proofs.downward.run_down.Goals as goal

pub returns-then-words-read : goal.returns-then-words-read
returns-then-words-read c =
    let a = c.args in
    let l = c.loop-read in
    let s = c.size_down-n in
    let z = cut-stops a.rule a.words.now a.out.now l.out l.read l.written l.invariant
    c.loop-read-test.true s.result s.ensures c.if-words-read.true in
    record {
      report = c.report.ensures ∙ reports z;
      output = z.holds;
    }

pub packet_in_run-sent-requires : goal.packet_in_run-sent-requires
packet_in_run-sent-requires c =
    let l = c.loop-read in
    let s = c.size_down-n in
    part-whole c.args.words.now
    l.read s.result s.ensures c.loop-read-test.true
    c.if-words-read.false

pub returns-then-sent-eq-NONE_FIT : goal.returns-then-sent-eq-NONE_FIT
returns-then-sent-eq-NONE_FIT c =
    let a = c.args in
    let l = c.loop-read in
    let s = c.size_down-n in
    let z = full-stops a.rule a.words.now a.out.now l.out l.read l.written l.invariant
    c.loop-read-test.true s.result
    s.ensures c.if-words-read.false _ _
    (c.packet_in_run-sent.ensures.number, c.packet_in_run-sent.ensures.output) c.if-sent-eq-NONE_FIT.true in
    record {
      report = c.report-then-sent-eq-NONE_FIT.ensures ∙ reports z;
      output = z.holds;
    }

pub loop-read-smaller : goal.loop-read-smaller
loop-read-smaller c =
    let a = c.args in
    let l = c.loop-read in
    let s = c.size_down-n in
    let first = get_or a.words.now l.read 0 in
    omega (arith, size-range first, s.ensures, c.loop-read-test.true)

pub loop-read-preserved : goal.loop-read-preserved
loop-read-preserved c =
    let a = c.args in
    let l = c.loop-read in
    let s = c.size_down-n in
    rw c.counted-written.ensures (moves a.rule a.words.now a.out.now l.out l.read l.written
    l.invariant c.loop-read-test.true
    s.result s.ensures c.if-words-read.false _ _
    (c.packet_in_run-sent.ensures.number, c.packet_in_run-sent.ensures.output) c.if-sent-eq-NONE_FIT.false)

pub returns : goal.returns
unfolding run_down_by
returns c =
    let a = c.args in
    let l = c.loop-read in
    let z = finish (call_down_by a.rule) (down-near a.rule) (down-inside a.rule) tt a.words.now
    a.out.now tt l.out l.read l.written l.invariant c.loop-read-test.false in
    record {
      report = c.report-2.ensures ∙ reports z;
      output = z.holds;
    }

pub loop-read-init : goal.loop-read-init
loop-read-init c = start (call_down_by _) (down-near _) (down-inside _) tt _ _
