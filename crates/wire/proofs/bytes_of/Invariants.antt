-- `wire::bytes_of` meets its contract: the bytes of the words passed are stored.
use Rattle.std.proofs.Common.{◌≡◌, ◌≤◌, length, take}
use Rattle.std.proofs.lemmas.List.Edits.{sets}
use Rattle.wire.specs.Words.{bytes_of}
use Rattle.wire.proofs.bytes_of.Given as goal

abbrev pub invariant-loop-i : goal.invariant-loop-i
invariant-loop-i l =
    (l.i ≤ l.n) × (length l.bytes ≡ length l.fn.bytes) × (l.bytes ≡ sets l.fn.bytes 0 (bytes_of (take l.i l.words)))
