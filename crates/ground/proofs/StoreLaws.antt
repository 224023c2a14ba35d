-- Laws of stores: no words change nothing, and a row from the first place on. Assumes nothing.
use Prim.Native.Nat.{ℕ}
use mathlib.Core.Path.{◌≡◌}
use mathlib.Core.List.{List, [], append-nil}
use native.Mathlib.Nat.{add-zero, zero-add}
use lib.ListN.{length, take, take-append-drop}
use Rattle.ground.specs.Store.{at_start, written}

pub written_none : (to : ℕ) (out : List ℕ) → written to [] out ≡ out
written_none to out = rw (add-zero to, append-nil (take to out)) (take-append-drop to out)

pub start-written : (ws out : List ℕ) → written 0 ws out ≡ at_start ws out
start-written ws out = rw (zero-add (length ws))
