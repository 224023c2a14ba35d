-- A line that is put, and what is told of a packet has no place. Assumes nothing.
use Rattle.std.proofs.Common.{◌≡◌, ℕ, ◌-◌, ◌<◌, List, length, leb, Some, ◌∙◌, arith}
use lib.Seq.{sets-eq}
use borrow.Author.Tests.{leb-true}
use Rattle.ground.specs.Store.{written}
use Rattle.ground.proofs.Cases.{by_bool}
use Rattle.stream.specs.Answers.{sent}
use Rattle.std.proofs.Common.{◌+◌, eqb}
use Rattle.stream.specs.declared.Done.{Done}
use Rattle.stream.specs.Call.{answer_of, fit, read_of, sent_of, went}
use Rattle.stream.specs.Report.{counting, further}
use Rattle.text.specs.Lines.{place_if_put, with_row}
use Rattle.recording.specs.declared.Past.{Past}
use Rattle.rescuing.specs.Rescue.{rowed}

-- a row that has bytes was stored where there is a place after it
pub said-put : (text after row : List ℕ) (to end : ℕ) (u : Past) → 0 < length row → Some end ≡ place_if_put text to row
    → after ≡ with_row text to row
    → after ≡ written to (sent_of (fit (length text - to) (went sent row u))) text
said-put text after row to end u some q w =
    by_bool (leb (length row) (length text - to))
    (λ e. let h = leb-true (length row) (length text - to) e in
    rw e (rw e at w ∙ sets-eq row text to (omega (arith, some, h))))
    (λ e. let z = rw e at q in cc)

-- what is told of a packet of a rescue has no place, since no answer of its is that of bad data
pub no_place : {T : Type 0} (d : Done) (p q row : List ℕ) (room : ℕ) (u : T)
    → further d q (fit room (rowed p row u))
    ≡ counting (answer_of (fit room (rowed p row u))) (d.read + read_of q (fit room (rowed p row u)))
    (d.written + length (sent_of (fit room (rowed p row u))))
no_place d p q row room u = by_bool (eqb (length p) 0) (λ e. rw e)
    (λ e. by_bool (leb (length row) room) (λ f. rw (e, f)) (λ f. rw (e, f)))
