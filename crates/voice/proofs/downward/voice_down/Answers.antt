-- `voice::downward::voice_down` meets its contract: the rule and the check decide between the words of the message
-- and a refusal. Assumes nothing.
use mathlib.Core.Path.{◌≡◌, sym, ap, ◌∙◌}
use mathlib.Core.Bool.{false}
use Prim.Native.Nat.{ℕ}
use native.Mathlib.Omega.{arith}
use borrow.Author.Tests.{ne_eqb}
use lib.Dec.{eqb}
use Rattle.ground.proofs.Bools.{and-false}
use Rattle.screen.proofs.DownLaws.{voice2-goes}
use Rattle.lower.specs.declared.UpToFourWords.{UpToFourWords}
use Rattle.lower.specs.Values.{packed}
use Rattle.voice.proofs.DownLaws.{few_words, refused-sends, stored-sends, voice-words}
use Rattle.voice.proofs.downward.voice_down.Goals as goal

is_some : (n : ℕ) → n ≡ 2 → eqb n 0 ≡ false
is_some n h = ne_eqb n 0 (λ q. omega (arith, q, h))

pub returns-then-not-lets_down : goal.returns-then-not-lets_down
returns-then-not-lets_down c =
    let a = c.args in
    let z = refused-sends a.rule a.to a.out.now a.packet.now
    (voice2-goes a.rule a.packet.now (is_some _ c.requires.0) c.requires.1 ∙ rw (
      ← c.lets_down.ensures,
      c.if-not-lets_down.true,
    )) in
    record { number = z.0; output = z.1 }

pub store-requires : goal.store-requires
store-requires c =
    let p = c.args.packet.now in
    omega (
      arith,
      few_words p (omega (arith, c.requires.0)),
      ap (λ (y : UpToFourWords). y.count)
          (c.lowered.ensures ∙ ap packed (sym (voice-words p c.requires.1))),
    )

pub returns-then-is_good_voice2 : goal.returns-then-is_good_voice2
returns-then-is_good_voice2 c =
    let a = c.args in
    let p = a.packet.now in
    let x = c.lowered in
    let s = c.store.ensures in
    let z = stored-sends a.rule a.to a.out.now p
    (voice2-goes a.rule p (is_some _ c.requires.0) c.requires.1 ∙ rw (
      ← c.lets_down.ensures,
      c.if-not-lets_down.false,
      ← c.is_good_voice2.ensures,
      c.if-is_good_voice2.true,
    ))
    x.result (x.ensures ∙ ap packed (sym (voice-words p c.requires.1))) (few_words p (omega (arith, c.requires.0))) _
    _ s.number s.output in
    record { number = z.0; output = z.1 }

pub returns-else-is_good_voice2 : goal.returns-else-is_good_voice2
returns-else-is_good_voice2 c =
    let a = c.args in
    let z = refused-sends a.rule a.to a.out.now a.packet.now
    (voice2-goes a.rule a.packet.now (is_some _ c.requires.0) c.requires.1 ∙ rw (
      ← c.is_good_voice2.ensures,
      c.if-is_good_voice2.false,
      and-false,
    )) in
    record { number = z.0; output = z.1 }
