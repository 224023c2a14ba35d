-- `voice::downward::keyed_down` meets its contract: it is good or refused, and its words are those of its
-- message. Assumes nothing.
use mathlib.Core.Path.{refl, sym, ap, ◌∙◌}
use mathlib.Core.List.{List, [], ◌∷◌}
use Prim.Native.Nat.{ℕ}
use native.Mathlib.Omega.{arith}
use Rattle.screen.specs.Screen.{open_rule}
use Rattle.lower.specs.declared.UpToFourWords.{UpToFourWords}
use Rattle.lower.specs.Values.{packed}
use Rattle.lower.proofs.LowerLaws.{keyed-lowers}
use Rattle.voice.proofs.DownLaws.{few_words, open-goes, refused-sends, stored-sends, voice-words}
use Rattle.voice.proofs.downward.keyed_down.Goals as goal

abbrev p : ℕ → ℕ → List ℕ
p w v = w ∷ v ∷ []

pub store-requires : goal.store-requires
store-requires c =
    let a = c.args in
    let x = c.keyed_words in
    omega (
      arith,
      few_words (p a.w a.v) (omega arith),
      ap (λ (y : UpToFourWords). y.count)
          (x.ensures ∙ ap packed (keyed-lowers a.w a.v c.requires.1 ∙ sym
          (voice-words (p a.w a.v) c.requires.0))),
    )

pub returns-then-is_good_voice2 : goal.returns-then-is_good_voice2
returns-then-is_good_voice2 c =
    let a = c.args in
    let q = p a.w a.v in
    let x = c.keyed_words in
    let s = c.store.ensures in
    let g = c.is_good_voice2 in
    let z = stored-sends open_rule a.to a.out.now q (open-goes q refl c.requires.0 ∙ sym g.ensures ∙
    c.if-is_good_voice2.true)
    x.result (x.ensures ∙ ap packed (keyed-lowers a.w a.v c.requires.1 ∙ sym (voice-words q c.requires.0)))
    (few_words q (omega arith)) _ _ s.number s.output in
    record { number = z.0; output = z.1 }

pub returns-else-is_good_voice2 : goal.returns-else-is_good_voice2
returns-else-is_good_voice2 c =
    let a = c.args in
    let q = p a.w a.v in
    let z = refused-sends open_rule a.to a.out.now q (open-goes q refl c.requires.0 ∙ sym
    c.is_good_voice2.ensures ∙ c.if-is_good_voice2.false) in
    record { number = z.0; output = z.1 }
