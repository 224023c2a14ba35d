-- `text::fields::put_fields`: the loop's invariant is that the fields of the numbers passed are stored.
use Rattle.std.proofs.Common.{◌≡◌, ◌+◌, ◌*◌, length, map, take}
use Rattle.std.proofs.lemmas.List.Edits.{sets}
use Rattle.text.specs.Lines.{fields_of}
use Rattle.text.proofs.fields.put_fields.Given as goal

abbrev pub invariant-loop-number : goal.invariant-loop-number
invariant-loop-number g l =
    (l.at ≡ l.to + (l.digits + 1) * l.number-index) × (length l.out ≡ length l.initial.out)
    × (l.out ≡ sets l.initial.out l.to (fields_of l.digits (take l.number-index (map g.T.Field.worth l.numbers))))
