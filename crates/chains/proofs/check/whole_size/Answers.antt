-- `chains::check::whole_size`: of no words and of a packet that is cut there is none, and else its size.
use mathlib.Core.Path.{◌≡◌, sym, ap, ◌∙◌}
use Prim.Native.Nat.{ℕ, ◌-◌, ◌<◌, ◌≤◌}
use mathlib.Core.List.{List}
use native.Mathlib.Omega.{arith}
use lib.ListN.{get_or, length}
use lib.Seq.{length-take-le}
use borrow.Author.Tests.{eqb-false, eqb-true, ne_eqb}
use Rattle.ump.specs.Packet.{packet, size}
use Rattle.ump.proofs.PacketLaws.{packet-end, packet-short, packet-whole-at, size-range}
use Rattle.chains.specs.Turn.{whole_by}
use Rattle.chains.proofs.check.whole_size.Goals as goal

length-some : (n : ℕ) → (n ≡ 0 → ⊥) → 0 < n
length-some n h = omega arith

pub returns-then-is_empty : goal.returns-then-is_empty
returns-then-is_empty c =
    let ws = c.args.words.now in
    let z = eqb-true (length ws) 0 (sym c.is_empty.ensures ∙ c.if-is_empty.true) in
    sym (ap (λ (p : List ℕ). whole_by (length p)) (packet-end ws 0 (omega arith)))

pub returns-then-words-n : goal.returns-then-words-n
returns-then-words-n c =
    let ws = c.args.words.now in
    let z = eqb-false (length ws) 0 (sym c.is_empty.ensures ∙ c.if-is_empty.false) in
    let h : 0 < length ws = omega (arith, length-some (length ws) z) in
    sym (ap (λ (p : List ℕ). whole_by (length p)) (packet-short ws 0 h (omega (arith, c.size-n.ensures))))

pub returns : goal.returns
returns c =
    let ws = c.args.words.now in
    let z = eqb-false (length ws) 0 (sym c.is_empty.ensures ∙ c.if-is_empty.false) in
    let h : 0 < length ws = omega (arith, length-some (length ws) z) in
    let g : size (get_or ws 0 0) ≤ length ws - 0 = omega (arith, c.size-n.ensures) in
    let e : length (packet ws) ≡ c.size-n.result =
    ap length (packet-whole-at ws 0 h g)
    ∙ length-take-le (size (get_or ws 0 0)) ws (omega (arith, g))
    ∙ sym c.size-n.ensures in
    rw (e, ne_eqb c.size-n.result 0 (λ z. omega (arith, z, c.size-n.ensures, (size-range (get_or ws 0 0)).0)))
