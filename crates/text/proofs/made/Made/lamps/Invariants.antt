-- `text::panel::Made::lamps`: the loop's invariant is that the lamps of the keys passed are stored.
use Rattle.std.proofs.Common.{◌≡◌, length}
use Rattle.std.proofs.lemmas.List.Edits.{sets}
use Rattle.text.specs.Lamps.{lamps_below}
use Rattle.text.proofs.made.Made.lamps.Given as goal

abbrev pub invariant-loop-key : goal.invariant-loop-key
invariant-loop-key g l =
    (length l.row ≡ length l.initial.row) × (l.row ≡ sets l.initial.row 0 (lamps_below l.keys l.key))
