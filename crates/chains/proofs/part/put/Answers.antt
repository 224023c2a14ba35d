-- `chains::part::put`: the bytes of the piece's sort, so many as it has.
use mathlib.Core.Path.{◌≡◌, sym, ◌∙◌}
use native.Mathlib.Omega.{arith}
use lib.ListN.{get_or}
use Rattle.ump.specs.Word.{message_type}
use Rattle.piece.specs.Piece.{flex}
use Rattle.chains.proofs.StandLaws.{exclusive-bytes, flex-bytes}
use Rattle.chains.proofs.part.put.Goals as goal

pub put_flex-requires : goal.put_flex-requires
put_flex-requires c =
    let a = c.args in
    let q = c.requires in
    let e = sym c.message_type.ensures ∙ c.if-message_type-eq-FLEX.true in
    (omega (arith, q.1, q.2, (flex-bytes a.words.now 0 e).1), q.0.four e)

pub returns-then-message_type-eq-FLEX : goal.returns-then-message_type-eq-FLEX
returns-then-message_type-eq-FLEX c =
    let a = c.args in
    let q = c.requires in
    let e = sym c.message_type.ensures ∙ c.if-message_type-eq-FLEX.true in
    let x = flex-bytes a.words.now 0 e in
    c.put_flex.ensures ∙ rw (x.0, q.2, x.1)

pub put_exclusive-requires : goal.put_exclusive-requires
put_exclusive-requires c =
    let a = c.args in
    let q = c.requires in
    let n : message_type (get_or a.words.now 0 0) ≡ flex → ⊥ =
    λ e. c.if-message_type-eq-FLEX.false (c.message_type.ensures ∙ e) in
    let x = exclusive-bytes a.words.now 0 n in
    (q.1, omega (arith, q.2, x.1))

pub returns : goal.returns
returns c =
    let a = c.args in
    let n : message_type (get_or a.words.now 0 0) ≡ flex → ⊥ =
    λ e. c.if-message_type-eq-FLEX.false (c.message_type.ensures ∙ e) in
    let x = exclusive-bytes a.words.now 0 n in
    c.put_exclusive.ensures ∙ rw x.0
