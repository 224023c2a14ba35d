-- The bytes of some words fit in their text, and the words of some bytes in theirs; one channel's packets are no more
-- than the words, and fit in their output. Assumes nothing.
use Rattle.std.proofs.Common.{◌≡◌, ℕ, ◌*◌, ◌/◌, ◌≤◌, List, length, take, arith, length-take}
use Rattle.ground.specs.Store.{at_start}
use Rattle.ground.proofs.Cases.{choose}
use Rattle.stream.specs.declared.Done.{Done}
use Rattle.stream.specs.Report.{reported}
use Rattle.stream.specs.Run.{Ran}
use Rattle.stream.proofs.RunLaws.{words-read}
use Rattle.question.specs.Question.{in_range}
use Rattle.pupil.specs.Only.{only}
use Rattle.wire.specs.Words.{bytes_into, words_into, words_of}
use Rattle.wire.proofs.WordLaws.{bytes-length, words-length}
use Rattle.flow.proofs.BoundLaws.{reads-most, writes-most}

pub bytes_most : (n : ℕ) (ws text : List ℕ) → n ≡ length (bytes_into text ws) → n ≤ length text
bytes_most n ws text e = omega (arith, bytes-length (take (length text / 4) ws), length-take (length text / 4) ws)

pub words-most : (n : ℕ) (s buffer : List ℕ) → n ≡ length (words_into buffer s)
    → (n ≤ length buffer) × (4 * n ≤ length s)
words-most n s buffer e =
    let p = length-take (length buffer) (words_of s) in
    let q = words-length s in
    (omega arith, omega arith)

module _ (group channel room : ℕ) (ws out out' : List ℕ) (d : Done) where
  pub only-bounds : length out' ≡ length out → d ≡ reported (only group channel room ws)
      → out' ≡ at_start (only group channel room ws).sends out → (d.read ≤ length ws) × (d.written ≤ length out')
  unfolding only
  only-bounds l e f =
      let r = only group channel room ws in (
        reads-most r (length ws) d
            (choose (λ (x : Ran (ℕ × Unit {0})). x.read ≤ length ws) (in_range group channel) (λ _. words-read _ _ ws)
            (λ _. omega arith)) e,
        writes-most r out out' d e f l,
      )
