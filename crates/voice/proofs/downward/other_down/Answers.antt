-- `voice::downward::other_down` meets its contract: the rule and the check decide between the packet's own words
-- and a refusal. Assumes nothing.
use mathlib.Core.Path.{◌≡◌, sym, ap, ◌∙◌}
use mathlib.Core.Bool.{false}
use Prim.Native.Nat.{ℕ, ◌≤◌}
use native.Mathlib.Omega.{arith}
use borrow.Author.Tests.{ne_eqb}
use lib.Dec.{eqb}
use Rattle.ground.proofs.Bools.{and-false}
use Rattle.screen.proofs.DownLaws.{other_goes}
use Rattle.lower.specs.Values.{packed}
use Rattle.voice.proofs.DownLaws.{other-words, refused-sends, stored-sends, whole_part}
use Rattle.voice.proofs.downward.other_down.Goals as goal

is_some : (n : ℕ) → 1 ≤ n → eqb n 0 ≡ false
is_some n h = ne_eqb n 0 (λ q. omega (arith, q, h))

pub returns-then-not-lets_down : goal.returns-then-not-lets_down
returns-then-not-lets_down c =
    let a = c.args in
    let p = a.packet.now in
    let w = rw (whole_part p) at c.word_at-w.ensures in
    let z = refused-sends a.rule a.to a.out.now p
    (other_goes a.rule p (is_some _ c.requires.0) c.requires.2 ∙ rw (
      ← w,
      ← c.lets_down.ensures,
      c.if-not-lets_down.true,
    )) in
    record { number = z.0; output = z.1 }

pub returns-then-is_good_unchanged : goal.returns-then-is_good_unchanged
returns-then-is_good_unchanged c =
    let a = c.args in
    let p = a.packet.now in
    let w = rw (whole_part p) at
    c.word_at-w.ensures in
    let v = rw (whole_part p) at
    c.word_at-v.ensures in
    let x = c.same_words in
    let s = c.store.ensures in
    let ws = other-words p c.requires.2 in
    let z = stored-sends a.rule a.to a.out.now p
    (other_goes a.rule p (is_some _ c.requires.0) c.requires.2 ∙ rw (
      ← w,
      ← v,
      ← c.lets_down.ensures,
      c.if-not-lets_down.false,
      ← c.is_good_unchanged.ensures,
      c.if-is_good_unchanged.true,
    ))
    x.result (rw (whole_part p) at x.ensures ∙ ap packed (sym ws)) (rw ws c.requires.1) _ _ s.number s.output in
    record { number = z.0; output = z.1 }

pub returns-else-is_good_unchanged : goal.returns-else-is_good_unchanged
returns-else-is_good_unchanged c =
    let a = c.args in
    let p = a.packet.now in
    let w = rw (whole_part p) at c.word_at-w.ensures in
    let v = rw (whole_part p) at c.word_at-v.ensures in
    let z = refused-sends a.rule a.to a.out.now p
    (other_goes a.rule p (is_some _ c.requires.0) c.requires.2 ∙ rw (
      ← w,
      ← v,
      ← c.is_good_unchanged.ensures,
      c.if-is_good_unchanged.false,
      and-false,
    )) in
    record { number = z.0; output = z.1 }
