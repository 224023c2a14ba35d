-- The place of a packet in its exclusive, as its status says it (M2-104): all of it, its start, one between, its end.
use Rattle.std.specs.Prelude.{ℕ}
use Rattle.cable.specs.declared.hearing.Form.{Form}
use Rattle.cable.specs.declared.hearing.Form.TheVariants.{Complete, Start, Continue, End}

abbrev pub form_number : Form → ℕ
form_number Complete = 0
form_number Start = 1
form_number Continue = 2
form_number End = 3
