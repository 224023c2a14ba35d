-- The panel (RULES 10.4): the lines of the channels, in the order of the table.
use Rattle.std.specs.Prelude.{ℕ, suc, ◌/◌, ◌%◌, List, [], ◌∷◌}
use Rattle.channel.specs.declared.Record.{Record}
use Rattle.text.specs.Lines.{place_after, with_row}
use Rattle.text.specs.Lamps.{channel_line}

-- the lines of the records from record i on, which is that of group i / 16 and channel i % 16; one with no key down has
-- an empty line
unfoldable pub lines_from : ℕ → List Record → List (List ℕ)
lines_from i [] = []
lines_from i (r ∷ rs) = channel_line (i / 16) (i % 16) r.keys ∷ lines_from (suc i) rs

abbrev pub panel_lines : List Record → List (List ℕ)
panel_lines t = lines_from 0 t

-- Rows put into a text one after another, from a place on: the place after the last, and the text. A row that does not
-- fit is left out.
unfoldable pub rows_put : List ℕ → ℕ → List (List ℕ) → ℕ × List ℕ
rows_put text to [] = (to, text)
rows_put text to (row ∷ rows) = rows_put (with_row text to row) (place_after text to row) rows

-- the bytes in which all lines have room: 143 for each of 256 channels
abbrev pub panel_room : ℕ
panel_room = 36608
