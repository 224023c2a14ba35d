-- The bytes below the index are good: the first bad one stands behind them.
use Rattle.std.proofs.Common.{◌≡◌, ◌≤◌, drop, length, map}
use Rattle.fields.specs.Check.{bad_place, seven}
use Rattle.fields.proofs.CheckLaws.{passed}
use Rattle.fields.proofs.first_above.Given as goal

abbrev pub invariant-loop-i : goal.invariant-loop-i
invariant-loop-i l =
    record {
      place : bad_place (map seven l.bytes) ≡ passed l.i (bad_place (map seven (drop l.i l.bytes)));
      inside : l.i ≤ length l.bytes;
    }
