-- `keys::Keys::count` meets its contract. Assumes nothing.
use native.Mathlib.Omega.{arith}
use Rattle.keys.proofs.Laws.{counted}
use Rattle.keys.proofs.Keys.count.Goals as goal

pub returns : goal.returns
returns c = counted c.args.self (omega arith) (omega arith)
