-- `text::spell` meets its contract. The loop's invariant: the last digits are stored, and what is left of the number is
-- what stands before them. Assumes nothing.
use Prim.Native.Nat.{◌+◌, ◌-◌, ◌/◌, ◌^◌, ◌≤◌}
use mathlib.Core.Path.{◌≡◌}
use lib.ListN.{length}
use lib.Seq.{sets}
use Rattle.text.specs.Lines.{digits}
use Rattle.text.proofs.spell.Given as goal

abbrev pub invariant-loop-i : goal.invariant-loop-i
invariant-loop-i l =
    (l.i ≤ l.count) × (length l.out ≡ length l.initial.out)
    × (l.rest ≡ l.n / l.base ^ (l.count - l.i)) × (l.out ≡ sets l.initial.out (l.to + l.i)
    (digits l.base (l.count - l.i) l.n))
