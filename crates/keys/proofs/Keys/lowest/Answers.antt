-- `keys::Keys::lowest` meets its contract. Assumes nothing.
use mathlib.Core.Path.{sym}
use native.Mathlib.Omega.{arith}
use Rattle.keys.proofs.Laws.{lowest-low, lowest-high, lowest-none}
use Rattle.keys.proofs.Keys.lowest.Goals as goal

pub returns-then-self-ne0 : goal.returns-then-self-ne0
returns-then-self-ne0 c = sym (lowest-low c.args.self (omega arith) (omega arith) c.if-self-ne0.true)

pub returns-then-self-ne0-2 : goal.returns-then-self-ne0-2
returns-then-self-ne0-2 c = sym (lowest-high c.args.self (omega arith) (omega arith) c.if-self-ne0.false c.if-self-ne0-2.true)

pub returns-else-self-ne0-2 : goal.returns-else-self-ne0-2
returns-else-self-ne0-2 c = sym (lowest-none c.args.self (omega arith) (omega arith) c.if-self-ne0.false c.if-self-ne0-2.false)
