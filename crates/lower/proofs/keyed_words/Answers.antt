-- `lower::keyed_words` meets its contract: only a controller that is a part of a message has no word. Assumes nothing.
use Prim.Native.Nat.{◌%◌, ◌^◌}
use mathlib.Core.Path.{◌≡◌}
use native.Mathlib.Omega.{arith}
use Rattle.lower.specs.Keyed.{keyed_words}
use Rattle.lower.proofs.keyed_words.Goals as goal

pub returns-else-s-is_part : goal.returns-else-s-is_part
unfolding keyed_words
returns-else-s-is_part c =
    let s = c.status-s in
    let four : s.result % 2 ^ 4 ≡ s.result = omega (arith, s.ensures) in
    simp (
      c.one_word.ensures,
      four,
      c.keyed_value.ensures,
      c.if-s-is_part.false,
      ← c.is_part.ensures,
      ← c.byte3-n.ensures,
      ← s.ensures,
    )

pub returns-then-s-is_part : goal.returns-then-s-is_part
unfolding keyed_words
returns-then-s-is_part c = simp (
  c.no_words.ensures,
  c.if-s-is_part.true,
  ← c.is_part.ensures,
  ← c.byte3-n.ensures,
  ← c.status-s.ensures,
)
