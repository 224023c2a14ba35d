-- `chains::aside`: a good packet has a strange address or no chain, and a bad one is told what refuses it.
use mathlib.Core.Path.{◌≡◌, sym, ap, ◌∙◌}
use mathlib.Core.Bool.{true, false}
use native.Mathlib.Omega.{arith}
use lib.ListN.{length}
use Rattle.ump.specs.Packet.{first, packet}
use mathlib.Core.List.{List}
use Prim.Native.Nat.{ℕ}
use Rattle.screen.specs.Screen.{judged, neither_type, screen}
use Rattle.screen.proofs.ScreenLaws.{judged-bad}
use Rattle.piece.specs.Piece.{strange_address}
use Rattle.piece.proofs.PieceLaws.{slot-low}
use Rattle.chains.proofs.StandLaws.{first_of, whole-at}
use Rattle.chains.proofs.TurnLaws.{report-bad, report-no-chain, report-strange}
use Rattle.chains.proofs.aside.Goals as goal

pub bounds-words-0 : goal.bounds-words-0
bounds-words-0 c = let a = c.args in
    let q = c.requires in
    let ws = a.words.now in
    let some : length (packet ws) ≡ 0 → ⊥ = λ z. q.1 (q.0 ∙ z) in
    omega (arith, (whole-at ws 0 some).inside)

pub named-requires : goal.named-requires
named-requires c = let q = c.requires in (
  rw c.slot_of.ensures
      (slot-low _),
  q.3,
)

pub returns-then-has_strange_address : goal.returns-then-has_strange_address
returns-then-has_strange_address c = let a = c.args in
    let q = c.requires in
    let ws = a.words.now in
    let some : length (packet ws) ≡ 0 → ⊥ = λ z. q.1 (q.0 ∙ z) in
    let w = first_of ws 0 (whole-at ws 0 some) in
    let g = sym c.is_good.ensures
    ∙ c.if-is_good.true in
    let t : strange_address (first (packet ws)) ≡ true =
    ap strange_address w ∙ sym c.has_strange_address.ensures
    ∙ c.if-has_strange_address.true in
    c.named.ensures ∙ rw (q.0, c.slot_of.ensures, ← w) (report-strange a.c a.part ws g t)

pub returns-then-is_good : goal.returns-then-is_good
returns-then-is_good c = let a = c.args in
    let q = c.requires in
    let ws = a.words.now in
    let some : length (packet ws) ≡ 0 → ⊥ = λ z. q.1 (q.0 ∙ z) in
    let w = first_of ws 0 (whole-at ws 0 some) in
    let g = sym c.is_good.ensures
    ∙ c.if-is_good.true in
    let t : strange_address (first (packet ws)) ≡ false =
    ap strange_address w ∙ sym c.has_strange_address.ensures ∙ c.if-has_strange_address.false in
    c.beside.ensures ∙ rw q.0 (report-no-chain a.c a.part ws g t q.2)

pub returns-in-Ok : goal.returns-in-Ok
returns-in-Ok c =
    let p = packet c.args.words.now in
    let found = c.screen.ensures ∙ ap (λ (p : List ℕ). judged (screen neither_type p)) c.packet_at.ensures in
    let bad = judged-bad (screen neither_type p) (sym c.is_good.ensures ∙ c.if-is_good.false) in
    let both = sym c.in-Ok.is ∙ found ∙ bad in
    absurd (cc both)

pub returns-in-Err : goal.returns-in-Err
returns-in-Err c = let a = c.args in
    let q = c.requires in
    let ws = a.words.now in
    let s = screen neither_type (packet ws) in
    let g = sym c.is_good.ensures ∙ c.if-is_good.false in
    let found = c.screen.ensures ∙ ap (λ (p : List ℕ). judged (screen neither_type p)) c.packet_at.ensures in
    let both = sym c.in-Err.is ∙ found ∙ judged-bad s g in
    let answer : c.in-Err.refusal.answer ≡ s.answer = cc both in
    let place : c.in-Err.refusal.place ≡ s.place = cc both in
    c.beside-in-Err.ensures ∙ rw (answer, place, q.0) (report-bad a.c a.part ws g)
