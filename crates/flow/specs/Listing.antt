-- The listing (RULES 10.2): the line of a call in place of the words that it sends.
use Rattle.std.specs.Prelude.{ℕ, ◌-◌, List, length}
use Rattle.ump.specs.Packet.{packet}
use Rattle.stream.specs.declared.Done.{Done}
use Rattle.stream.specs.Call.{Call, left_of, stopped, went}
use Rattle.stream.specs.Report.{place_told}
use Rattle.stream.specs.Run.{Ran}
use Rattle.channel.specs.declared.Record.{Record}
use Rattle.voice.specs.Packet.{packet_up}
use Rattle.voice.specs.Turn.{in_room, report_of}
use Rattle.text.specs.Lines.{line_of}
use Rattle.table.specs.Table.{run_by, table_up}
use Rattle.flow.specs.declared.AfterAndReport.{AfterAndReport}

-- a call at the packet p; one that stops has no line
abbrev pub listed : {T : Type 0} → List ℕ → Call T → Call T
listed p (went a ws u) = went a (line_of a (length p) (place_told a p) ws) u
listed p (stopped a) = stopped a

-- a call with a record, after what was read and written so far: what is left of the record, and the report
abbrev pub record_turned : Done → List ℕ → List ℕ → Record → Call Record → AfterAndReport Record
record_turned d p out r c =
    record { after = (left_of (length out - d.written, r) (in_room d out c)).1; done = report_of d p out c }

-- a packet with its own record, and the packet that stands first in some words with the table
abbrev pub line_up : Record → List ℕ → Call Record
line_up r p = listed p (packet_up r p)

unfoldable pub list_up : List Record → List ℕ → Call (List Record)
list_up t s = listed (packet s) (table_up t s)

-- a run up, in a text of so many bytes, whose room is asked for lines as that of an output is for words
unfoldable pub run_lines : ℕ → List Record → List ℕ → Ran (ℕ × List Record)
run_lines room t s = run_by list_up room t s
