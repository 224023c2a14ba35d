-- `keys::Keys::is_down`: the bit of the key's half, and none above both.
use borrow.Author.Tests.{lt-ltb, le-ltb}
use Rattle.keys.specs.Keys.{bit, down}
use Rattle.keys.proofs.Keys.is_down.Goals as goal

pub returns-then-key-lt64 : goal.returns-then-key-lt64
unfolding down bit
returns-then-key-lt64 c = simp (lt-ltb _ _ c.if-key-lt64.true)

pub returns-then-key-lt128 : goal.returns-then-key-lt128
unfolding down bit
returns-then-key-lt128 c = simp (le-ltb _ _ c.if-key-lt64.false, lt-ltb _ _ c.if-key-lt128.true)

pub returns-else-key-lt128 : goal.returns-else-key-lt128
unfolding down bit
returns-else-key-lt128 c = simp (le-ltb _ _ c.if-key-lt64.false, le-ltb _ _ c.if-key-lt128.false)
