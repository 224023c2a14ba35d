-- `voice::output::send` meets its contract: what `put` answers is whether the words fit. Assumes nothing.
use mathlib.Core.Path.{sym, ◌∙◌}
use Prim.Native.Nat.{◌-◌}
use native.Mathlib.Omega.{arith}
use lib.ListN.{length}
use borrow.Author.Tests.{leb-true}
use Rattle.voice.specs.Output.{sent_words}
use Rattle.voice.proofs.PutLaws.{room-report, words-length}
use Rattle.voice.proofs.output.send.Goals as goal

pub overflow_add-to : goal.overflow_add-to
overflow_add-to c =
    let a = c.args in
    let n = words-length a.words c.requires.0 in
    let k = leb-true (length (sent_words a.words)) (length a.out.now - a.past.written) (sym c.put.ensures.answer ∙ c.if-put.true) in
    record { fits = omega (arith, n, k) }

pub returns-then-put : goal.returns-then-put
returns-then-put c =
    let a = c.args in
    let p = c.put.ensures in
    record {
      report = c.report.ensures ∙ room-report a.past a.n a.out.now a.words c.requires.0 (sym p.answer ∙ c.if-put.true);
      output = p.output;
    }
