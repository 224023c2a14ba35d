-- `wire::words_of` meets its contract: the words passed are stored.
use Rattle.std.proofs.Common.{◌≡◌, ◌≤◌, length, take}
use Rattle.std.proofs.lemmas.List.Edits.{sets}
use Rattle.wire.specs.Words.{words_of}
use Rattle.wire.proofs.words_of.Given as goal

abbrev pub invariant-loop-i : goal.invariant-loop-i
invariant-loop-i l =
    (l.i ≤ l.n) × (length l.words ≡ length l.fn.words) × (l.words ≡ sets l.fn.words 0 (take l.i (words_of l.bytes)))
