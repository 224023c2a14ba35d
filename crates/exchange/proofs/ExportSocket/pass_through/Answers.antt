-- `exchange::Export::pass_through` meets its contract: four bytes were given for each word, no more words are read than
-- those, and no more bytes are sent than the text holds. Assumes nothing.
use native.Mathlib.Omega.{arith}
use lib.ListN.{length, length-take, take}
use Rattle.program.proofs.Bounds.{words-most}
use Rattle.cableflow.proofs.BoundLaws.{export-bounds}
use Rattle.exchange.proofs.ExportSocket.pass_through.Goals as goal

pub slice_bounds-export_some-end : goal.slice_bounds-export_some-end
slice_bounds-export_some-end c =
    let w = c.words_of-n in
    omega (arith, (words-most w.result c.args.bytes.now c.args.words.now w.ensures.count).0, w.auto.words)

pub overflow_mul-result : goal.overflow_mul-result
overflow_mul-result c =
    let a = c.args in
    let w = c.words_of-n in
    let u = c.export_some-counted in
    let x = export-bounds a.self.now.group (length a.text.now) (take w.result w.new.words) a.text.now u.new.out u.result.ran
    u.auto.out u.ensures.report u.ensures.output in
    omega (
      arith,
      x.0,
      length-take w.result w.new.words,
      (words-most w.result a.bytes.now a.words.now w.ensures.count).1,
    )

pub returns : goal.returns
returns c =
    let a = c.args in
    let w = c.words_of-n in
    let u = c.export_some-counted in
    let x = export-bounds a.self.now.group (length a.text.now) (take w.result w.new.words) a.text.now u.new.out u.result.ran
    u.auto.out u.ensures.report u.ensures.output in
    record {
      read =
          omega (
            arith,
            x.0,
            length-take w.result w.new.words,
            (words-most w.result a.bytes.now a.words.now w.ensures.count).1,
          );
      bytes = x.1;
    }
